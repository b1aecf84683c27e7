pub mod Callables
