pub mod Law
pub mod Adding
pub mod Searching
pub mod Reversing
pub mod Ranges
pub mod Listing
