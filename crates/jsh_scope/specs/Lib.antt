pub mod Scope
pub mod Reached
pub mod Statics
pub mod Imports
pub mod Answers
pub mod Indexes
pub mod Queries
pub mod Asking
