pub mod Completeness
pub mod Reading
pub mod Completing
