pub mod Access
pub mod Table
pub mod Views
pub mod Writes
