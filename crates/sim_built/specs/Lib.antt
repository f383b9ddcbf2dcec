pub mod Allowed
pub mod Laid
