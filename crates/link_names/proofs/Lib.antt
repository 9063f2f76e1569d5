pub mod Held
pub mod Lists
pub mod More
pub mod Steps
pub mod Symbols
pub mod Whole
