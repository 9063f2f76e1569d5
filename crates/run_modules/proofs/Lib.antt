mod Fitting
mod SameCells
pub mod Seen
mod Steps
mod Written
