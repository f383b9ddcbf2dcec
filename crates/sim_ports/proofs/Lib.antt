pub mod FileLemmas
pub mod Transfers
