pub mod Assignments
pub mod Expressions
