pub mod Bytes
pub mod Libraries
pub mod FromBytes
pub mod Links
pub mod Rows
