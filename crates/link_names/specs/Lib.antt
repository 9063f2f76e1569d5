pub mod Interning
pub mod Numbered
