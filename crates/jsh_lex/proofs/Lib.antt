pub mod Explained
pub mod Lexemes
pub mod Longest
pub mod Places
pub mod Texts
pub mod Values
