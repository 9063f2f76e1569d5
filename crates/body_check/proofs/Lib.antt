pub mod Going
pub mod Judges
pub mod Labels
pub mod Doing
pub mod Tables
pub mod Stretches
