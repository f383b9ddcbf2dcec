pub mod SameRuns
pub mod Examples
