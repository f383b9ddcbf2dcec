mod Weights
mod Words
mod Stages
mod Rows
pub mod Transfers
pub mod Lifts
pub mod Scheduling
mod Main
