pub mod Keys
pub mod Sought
pub mod Ops
pub mod Code
pub mod Data
