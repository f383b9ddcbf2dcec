pub mod OneEnd
pub mod Prefixes
pub mod Ran
pub mod Reading
pub mod Showing
