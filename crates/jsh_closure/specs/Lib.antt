pub mod Closure
pub mod Searches
pub mod Reversals
pub mod Finding
