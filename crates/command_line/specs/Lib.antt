pub mod Executed
pub mod Generated
pub mod Given
pub mod Options
pub mod Words
