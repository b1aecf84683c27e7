pub mod LayoutLaws
pub mod Multiples
pub mod Sizes
pub mod Steps
