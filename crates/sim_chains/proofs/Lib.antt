pub mod Cuts
pub mod Counts
pub mod Keeps
pub mod Refused
pub mod Transfers
pub mod Entries
