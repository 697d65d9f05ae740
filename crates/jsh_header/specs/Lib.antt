pub mod Outlines
pub mod SuperRules
pub mod Tables
pub mod Diagnostics
pub mod Bad
pub mod Replaced
pub mod Units
