pub mod AssignmentSteps
pub mod LastRound
pub mod Simulations
pub mod Tellings
pub mod Worked
