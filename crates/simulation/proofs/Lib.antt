pub mod LawLemmas
pub mod SchedulingLemmas
