pub mod Tokens
pub mod Steps
pub mod Tables
pub mod Shapes
pub mod Ranges
pub mod Climbing
