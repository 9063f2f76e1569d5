pub mod Candidates
pub mod Loads
pub mod Names
pub mod Numbers
pub mod Rounds
pub mod Stands
pub mod Told
pub mod Zips
