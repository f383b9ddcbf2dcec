pub mod Slots
pub mod Stacks
pub mod Frames
pub mod Free
pub mod Arrays
pub mod Operators
pub mod Budget
