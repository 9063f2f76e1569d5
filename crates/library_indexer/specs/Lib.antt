pub mod Index
pub mod Indexed
pub mod Steps
pub mod Completed
pub mod Rows
