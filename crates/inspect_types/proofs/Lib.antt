pub mod Attributes
pub mod Meetings
