pub mod Laws
pub mod LoopLaws
pub mod Walking
pub mod Running
pub mod Order
pub mod Rows
