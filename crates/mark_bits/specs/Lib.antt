pub mod Chunks
pub mod Words
pub mod Marks
pub mod Rule
pub mod Seats
pub mod Kept
pub mod Reach
pub mod Rounds
