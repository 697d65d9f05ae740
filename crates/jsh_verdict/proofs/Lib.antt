pub mod Trees
pub mod Sums
pub mod Refusing
pub mod Because
pub mod Decides
