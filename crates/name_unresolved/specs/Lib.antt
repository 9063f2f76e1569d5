pub mod Refers
pub mod Least
pub mod Unresolved
pub mod Search
pub mod Laws
