pub mod Parts
pub mod Meant
pub mod Clap
pub mod Found
pub mod Lone
