pub mod Stands
pub mod Known
pub mod Laws
