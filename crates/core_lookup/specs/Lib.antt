pub mod Tables
pub mod Scopes
pub mod Classes
pub mod Access
pub mod Found
pub mod Answers
