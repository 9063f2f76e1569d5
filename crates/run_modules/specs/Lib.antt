pub mod Cells
pub mod Fits
pub mod Keys
pub mod Whole
