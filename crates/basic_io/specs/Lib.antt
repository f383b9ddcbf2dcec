pub mod Image
pub mod Input
pub mod Intext
pub mod Output
