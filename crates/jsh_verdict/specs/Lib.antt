pub mod Diagnostics
pub mod Verdict
pub mod Causes
