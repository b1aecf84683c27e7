pub mod Forms
pub mod Deciding
pub mod Reflexive
pub mod Rows
pub mod Symmetric
pub mod Transitive
pub mod Walks
