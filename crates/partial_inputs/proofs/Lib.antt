pub mod Ranges
pub mod Refusing
