mod Lists
mod Histories
mod Rules
mod Queue
mod Seats
mod Clauses
mod Props
pub mod Crossing
