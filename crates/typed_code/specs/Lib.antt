pub mod Basics
pub mod Arrays
pub mod Held
pub mod ExprTrees
pub mod StmtTrees
pub mod Has
pub mod Steps
pub mod Void
