pub mod Edges
pub mod Cuts
pub mod Texts
pub mod Lengths
pub mod Rows
