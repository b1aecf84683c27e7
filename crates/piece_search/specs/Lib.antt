pub mod TurnParts
pub mod FoundSays
