pub mod CellsTold
pub mod ExportsTold
pub mod Composed
pub mod SymSteps
pub mod SymAnswering
pub mod SymOpened
pub mod SymLoading
