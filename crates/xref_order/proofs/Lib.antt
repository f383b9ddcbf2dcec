pub mod Rising
pub mod Sizes
mod Within
pub mod Declaring
mod OwnRows
mod Marks
mod Completing
pub mod RowOrder
