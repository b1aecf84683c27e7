pub mod Boards
pub mod Answers
pub mod Seating
pub mod Homes
pub mod Changes
