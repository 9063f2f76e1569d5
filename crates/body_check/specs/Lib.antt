pub mod Judging
pub mod Labels
pub mod Passing
pub mod Table
