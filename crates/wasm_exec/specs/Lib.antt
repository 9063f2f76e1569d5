pub mod Entries
pub mod Answer
pub mod Command
pub mod Loading
pub mod Rows
