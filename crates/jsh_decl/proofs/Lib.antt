pub mod SoundWords
pub mod SoundNames
pub mod SoundMethods
pub mod SoundMembers
pub mod SoundStatements
pub mod SoundSnippets
pub mod CompleteBelow
pub mod Fronts
pub mod CompleteNames
pub mod Edges
pub mod CompleteMembers
pub mod CompleteTypes
pub mod Complete
pub mod TableModifiers
pub mod TableRuns
pub mod TableDerived
pub mod TableTrees
pub mod TableNames
pub mod TableMembers
pub mod TableSpelled
mod DeclarationTurns
mod DeclarationOnward
mod DeclarationMembers
mod DeclarationSnippets
mod DeclarationAllTokens
mod DeclarationRefused
