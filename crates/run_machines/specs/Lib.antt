pub mod Runs
pub mod Sym
