pub mod Labels
pub mod Names
pub mod Section
pub mod Laws
pub mod Rows
