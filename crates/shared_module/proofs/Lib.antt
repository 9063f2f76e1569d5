mod Applied
mod Held
mod Outputs
pub mod Keys
mod Stored
mod Ranged
