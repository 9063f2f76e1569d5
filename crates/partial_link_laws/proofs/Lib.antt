pub mod Few
pub mod Files
pub mod Law
pub mod Told
