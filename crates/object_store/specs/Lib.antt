pub mod Trees
pub mod Objects
pub mod Access
pub mod Pointers
pub mod Answers
