pub mod Ends
pub mod Values
pub mod Laws
pub mod FiveBytes
pub mod Computed
pub mod Written
pub mod Ranges
