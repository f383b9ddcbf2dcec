pub mod Held
pub mod Expressions
pub mod Statements
pub mod Typed
pub mod SetProgram
pub mod Examples
