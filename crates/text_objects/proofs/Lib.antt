pub mod Moves
pub mod Blanks
pub mod Items
pub mod Justified
pub mod FrameLemmas
