pub mod Exports
pub mod SymOf
pub mod Choosing
