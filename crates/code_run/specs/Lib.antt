pub mod CodeEnds
