pub mod Edge
pub mod Gather
pub mod MemoryObjects
pub mod Adapters
