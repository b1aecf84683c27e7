pub mod Texts
pub mod Library
pub mod LibraryScopes
pub mod KeyedHash
pub mod TextTable
pub mod NameTable
pub mod LimitRanges
pub mod Refusals
