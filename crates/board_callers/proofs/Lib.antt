pub mod Loans
pub mod PieceWork
pub mod Searched
pub mod Looked
pub mod HandEnds
pub mod HandLists
pub mod ReadlessFacts
pub mod Parks
mod StepRows
