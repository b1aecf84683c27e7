pub mod TurnParts
pub mod Searches
