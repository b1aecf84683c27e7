pub mod ThreePieces
pub mod ThreeLaws
pub mod Readless
pub mod Chained
pub mod ChainLaws
