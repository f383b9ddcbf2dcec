pub mod Numbering
pub mod Passing
pub mod Placing
pub mod Gathering
pub mod Knowing
pub mod ByTokens
pub mod Copies
