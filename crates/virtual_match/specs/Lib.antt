pub mod Qualifying
pub mod Matching
pub mod Protections
