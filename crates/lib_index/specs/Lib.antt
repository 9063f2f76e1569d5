pub mod Archive
pub mod Library
pub mod Reading
pub mod Table
pub mod Examples
