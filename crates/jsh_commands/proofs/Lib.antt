pub mod Decimals
pub mod FirstWords
