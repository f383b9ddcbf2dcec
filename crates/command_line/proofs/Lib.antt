pub mod Disjoint
pub mod GivenOnce
pub mod Numbers
pub mod WordSteps
