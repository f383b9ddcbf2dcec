pub mod Fits
pub mod Headings
