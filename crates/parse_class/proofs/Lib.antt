pub mod Arms
mod Blocks
pub mod ClassForms
mod Declarators
mod Joins
pub mod Nothing
pub mod Tokens
mod Words
