pub mod Paths
pub mod Thin
pub mod Tokens
