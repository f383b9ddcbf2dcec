pub mod TextTrees
pub mod ConstantTrees
