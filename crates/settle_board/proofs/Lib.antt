pub mod Allowed
pub mod Hands
pub mod Stores
pub mod Dealt
pub mod Taking
pub mod Joined
pub mod Callers
pub mod SeatLists
