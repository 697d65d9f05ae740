pub mod Kinds
pub mod Keys
pub mod Headers
pub mod Mentions
pub mod Names
