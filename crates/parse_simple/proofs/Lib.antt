pub mod SimpleForms
