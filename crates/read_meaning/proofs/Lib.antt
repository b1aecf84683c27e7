pub mod Taken
pub mod Meaning
pub mod Standing
pub mod Over
pub mod Rows
