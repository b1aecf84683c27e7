pub mod CallNotes
pub mod LibraryNames
pub mod TextLemmas
