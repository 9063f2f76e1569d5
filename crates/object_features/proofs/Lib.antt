mod Joining
mod Plain
mod Steps
pub mod Customs
