pub mod Apart
pub mod Checks
pub mod Held
pub mod Over
pub mod Parts
pub mod Sums
