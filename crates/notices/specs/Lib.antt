pub mod Notices
pub mod Schedule
pub mod Seen
pub mod Scheduling
pub mod Runs
