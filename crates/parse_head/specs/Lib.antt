pub mod Joined
pub mod Turned
