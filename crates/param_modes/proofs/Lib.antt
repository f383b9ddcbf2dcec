pub mod AsJudged
pub mod Gathering
pub mod Holding
