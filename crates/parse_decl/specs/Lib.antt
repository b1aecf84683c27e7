pub mod Joined
pub mod Answers
