pub mod Coded
pub mod AllOf
pub mod Found
pub mod Gives
pub mod Fewer
