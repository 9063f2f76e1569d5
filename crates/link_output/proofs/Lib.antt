pub mod Lengths
pub mod Moved
pub mod Apart
pub mod Writes
pub mod Sources
