pub mod Types
mod Rows
