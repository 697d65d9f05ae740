pub mod Derived
pub mod Stacks
pub mod Usable
pub mod Witnesses
pub mod Onward
pub mod DepthsFilled
pub mod DepthsBounded
