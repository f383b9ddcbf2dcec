pub mod Exact
pub mod Filling
pub mod Lines
