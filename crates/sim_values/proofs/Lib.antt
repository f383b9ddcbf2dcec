pub mod Joins
pub mod Powers
pub mod Products
pub mod Remainders
pub mod Steps
pub mod Worked
