pub mod Mismatches
pub mod Rows
