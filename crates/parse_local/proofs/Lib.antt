pub mod Begin
pub mod Looks
pub mod Inits
