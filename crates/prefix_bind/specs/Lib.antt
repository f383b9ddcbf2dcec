pub mod Cells
pub mod Classes
pub mod Prefixes
pub mod Sums
