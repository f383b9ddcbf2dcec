mod AfterMark
pub mod Answers
mod BeforePlace
mod Bodies
mod Chains
mod Converting
mod Expressions
mod Firsts
mod InFront
pub mod Index
mod LastBroken
mod LastFound
mod Lasts
mod Leasts
mod Lists
mod Marks
mod Meeting
mod Misfits
mod Parts
mod Seconds
mod Telling
mod Tests
mod UsesFound
pub mod Whats
