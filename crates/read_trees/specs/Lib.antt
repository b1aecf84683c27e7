pub mod Trees
pub mod Walks
pub mod Runs
pub mod Loops
