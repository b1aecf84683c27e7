pub mod Reading
pub mod Any
pub mod Extents
pub mod Readers
pub mod Answers
pub mod Laws
