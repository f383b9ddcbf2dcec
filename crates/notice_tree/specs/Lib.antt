pub mod Balance
pub mod Climb
pub mod First
pub mod Held
pub mod Nodes
pub mod Spots
pub mod Trees
