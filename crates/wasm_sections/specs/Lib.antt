pub mod Sections
pub mod Reading
pub mod Examples
