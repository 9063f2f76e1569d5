pub mod Parts
pub mod Objects
pub mod Functions
mod Rows
