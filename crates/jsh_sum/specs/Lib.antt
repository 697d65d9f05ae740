pub mod Sum
pub mod Reading
