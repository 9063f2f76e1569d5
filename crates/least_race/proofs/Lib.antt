pub mod Keeps
pub mod Least
pub mod Moves
pub mod Parties
pub mod Schedules
pub mod Threes
