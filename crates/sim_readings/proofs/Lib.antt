mod Table
mod Reading
mod Parts
mod Making
mod Expressions
mod Declarations
mod Statements
mod Programs
pub mod Sources
mod Places
