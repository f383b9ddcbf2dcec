mod Weights
mod Closing
mod Operators
mod Main
pub mod WorkedEnds
