pub mod Lines
pub mod Turning
pub mod Steps
pub mod Placing
