pub mod Ends
pub mod Faults
pub mod Labels
pub mod Pieces
pub mod Rows
pub mod Usages
