pub mod Types
pub mod Linked
pub mod Spaces
pub mod Checked
pub mod Statements
