pub mod Kinds
pub mod Relocs
pub mod Short
pub mod Fault
pub mod RelocLaws
pub mod Stays
pub mod Examples
