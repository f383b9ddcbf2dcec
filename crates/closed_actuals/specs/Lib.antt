pub mod Closed
pub mod Evaluations
