pub mod Claim
pub mod CommaLists
pub mod Elements
pub mod Fronts
pub mod Parsing
pub mod Program
pub mod Recursion
