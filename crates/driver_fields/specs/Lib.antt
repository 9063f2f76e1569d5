pub mod Fields
pub mod Lacking
pub mod Own
pub mod Sections
pub mod Values
