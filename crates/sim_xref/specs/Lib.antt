pub mod Rows
pub mod Text
pub mod Filling
pub mod Laws
