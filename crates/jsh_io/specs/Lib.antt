pub mod Count
pub mod Inputs
pub mod Memory
pub mod MemoryDesk
pub mod Named
pub mod Script
pub mod Streams
