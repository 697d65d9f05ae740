pub mod Commands
pub mod Scans
pub mod Rests
pub mod Cuttings
pub mod Remainders
