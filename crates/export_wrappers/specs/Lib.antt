pub mod Wrapped
pub mod Cuts
pub mod Written
pub mod Answer
pub mod Rows
