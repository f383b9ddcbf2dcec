pub mod Chains
pub mod TypeOf
