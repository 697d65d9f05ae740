pub mod Closing
pub mod Alike
pub mod Positions
pub mod Naming
