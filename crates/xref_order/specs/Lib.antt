pub mod Order
pub mod Declared
