pub mod Objects
pub mod Agree
