mod Held
pub mod Lists
mod Keeps
mod Moves
pub mod Rounds
mod Sitting
