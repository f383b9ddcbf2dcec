pub mod Frames
pub mod Making
