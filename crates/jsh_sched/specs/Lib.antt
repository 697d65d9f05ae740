pub mod ThreadState
pub mod Pick
