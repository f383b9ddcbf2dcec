pub mod LastMatch
pub mod Rows
