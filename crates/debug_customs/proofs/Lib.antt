pub mod Customs
pub mod Objects
