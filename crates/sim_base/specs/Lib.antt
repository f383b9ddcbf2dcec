pub mod Lexeme
pub mod Place
pub mod Rule
pub mod RunError
