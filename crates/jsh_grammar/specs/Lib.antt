pub mod Classes
pub mod Productions
pub mod Fronts
pub mod Leads
pub mod Depths
