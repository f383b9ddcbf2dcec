pub mod Coming
pub mod ProcessEnds
