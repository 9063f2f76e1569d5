pub mod Called
pub mod Marked
pub mod Rows
