pub mod Searches
pub mod Numbers
pub mod CellSums
pub mod ChainLevels
pub mod Ending
pub mod Settling
pub mod Later
