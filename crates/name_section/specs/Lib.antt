pub mod Names
pub mod Some
pub mod Lengths
pub mod Customs
pub mod Rows
