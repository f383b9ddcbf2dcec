pub mod Performed
pub mod Calls
pub mod Unread
pub mod Taking
pub mod Quiet
pub mod Apart
