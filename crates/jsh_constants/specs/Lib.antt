pub mod Constants
pub mod Numbers
pub mod Operators
pub mod References
