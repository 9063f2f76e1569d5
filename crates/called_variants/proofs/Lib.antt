pub mod Flagged
pub mod NameBytes
