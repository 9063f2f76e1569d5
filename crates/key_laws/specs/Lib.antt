pub mod Differ
pub mod Standing
pub mod Links
