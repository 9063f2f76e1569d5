pub mod Called
pub mod Lines
pub mod Members
pub mod Rows
pub mod Words
pub mod Mismatch
