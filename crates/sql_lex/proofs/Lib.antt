pub mod Lexing
pub mod QuoteLaws
pub mod QuotedText
pub mod Fronts
