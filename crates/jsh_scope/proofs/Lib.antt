pub mod Clones
pub mod Importing
pub mod Places
pub mod Names
pub mod Agreement
pub mod Reaching
