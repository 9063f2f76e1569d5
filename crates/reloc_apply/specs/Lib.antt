pub mod Apart
pub mod PartLaws
pub mod Parts
pub mod Rows
pub mod Windows
