pub mod Maps
pub mod Stages
pub mod Standing
pub mod Views
pub mod Rule
pub mod Plays
pub mod Shows
pub mod Kinds
