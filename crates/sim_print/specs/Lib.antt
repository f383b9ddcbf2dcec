pub mod Words
pub mod Spelling
pub mod Layout
pub mod Tokens
pub mod Canonical
pub mod Unnumbered
pub mod Laid
pub mod Trees
