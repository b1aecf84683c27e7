pub mod Meant
pub mod Next
pub mod State
pub mod Steps
pub mod Sound
pub mod Bound
