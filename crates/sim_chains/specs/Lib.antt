pub mod Chains
pub mod Components
pub mod Heads
pub mod Refusals
pub mod WellFormed
pub mod Runs
