pub mod Memory
pub mod Order
pub mod Rows
pub mod Steps
