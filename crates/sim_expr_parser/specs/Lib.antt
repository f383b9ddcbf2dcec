pub mod Claim
pub mod Level
pub mod Operators
pub mod Parsing
pub mod Recursion
