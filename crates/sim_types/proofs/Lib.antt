pub mod Shared
pub mod Outward
pub mod Selectors
pub mod Steps
pub mod Walks
