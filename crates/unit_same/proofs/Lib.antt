pub mod StatementForms
pub mod StatementRows
