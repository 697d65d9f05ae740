pub mod Place
pub mod Words
pub mod Names
pub mod Diagnostics
pub mod Events
pub mod Snippets
pub mod Outcomes
pub mod Texts
