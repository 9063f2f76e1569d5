pub mod Spelling
pub mod Reading
pub mod Shortest
pub mod Rows
pub mod Writing
