pub mod Alike
pub mod Loads
pub mod Names
pub mod Numbered
