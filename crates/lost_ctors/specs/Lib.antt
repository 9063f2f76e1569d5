pub mod Alive
pub mod Inits
pub mod Exits
