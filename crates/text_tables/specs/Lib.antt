pub mod Making
pub mod Constants
pub mod TokenTable
