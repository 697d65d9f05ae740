pub mod Chars
pub mod Lexis
pub mod Literal
pub mod Number
pub mod Spelling
pub mod Table
pub mod Value
