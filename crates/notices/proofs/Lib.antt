pub mod LawLemmas
pub mod ListLemmas
pub mod PlaceLemmas
pub mod ScheduleLemmas
