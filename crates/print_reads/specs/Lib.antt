pub mod Writable
pub mod ReadBack
