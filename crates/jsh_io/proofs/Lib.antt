pub mod Known
pub mod MemoryFiles
pub mod NamedValues
pub mod OtherFiles
