pub mod Connecting
pub mod Visible
