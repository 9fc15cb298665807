pub mod Quotes
pub mod Lex
