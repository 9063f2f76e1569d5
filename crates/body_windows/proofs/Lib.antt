pub mod Spread
pub mod Merge
pub mod Steps
pub mod Order
pub mod Within
pub mod Walk
pub mod Skims
pub mod Passing
