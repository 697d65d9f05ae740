pub mod Words
pub mod Declarations
pub mod DeclarationReader
pub mod DeclarationReading
