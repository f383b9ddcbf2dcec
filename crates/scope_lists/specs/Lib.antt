pub mod Lists
pub mod Accessible
pub mod Denoted
pub mod Classes
pub mod Example
