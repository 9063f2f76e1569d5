pub mod Words
pub mod Matched
pub mod Reads
pub mod Rows
