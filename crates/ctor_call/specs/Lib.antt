pub mod Body
mod Rows
