pub mod Steps
pub mod Passed
pub mod TypesFolded
pub mod Any
pub mod Equals
pub mod Heard
pub mod Imports
pub mod Onto
pub mod Positions
pub mod ToldLists
pub mod Flags
pub mod LiveTold
pub mod Known
pub mod FirstsTold
pub mod ImportsTold
pub mod StubsTold
mod Joining
mod Slots
