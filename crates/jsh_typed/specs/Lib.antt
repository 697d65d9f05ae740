pub mod Conversions
pub mod Hierarchy
pub mod Kinds
pub mod Operations
pub mod Types
