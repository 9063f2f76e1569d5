mod Around
mod Causes
mod Due
mod Lines
mod Sayings
pub mod Taken
