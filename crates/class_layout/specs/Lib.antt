pub mod Arrangement
pub mod Laws
