pub mod LexisSteps
pub mod LexisBehind
pub mod LexisFronts
pub mod LexisMarks
pub mod LexisOpen
pub mod LexisResumes
pub mod LexisStillOpen
