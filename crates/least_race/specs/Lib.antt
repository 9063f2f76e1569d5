pub mod Invariant
pub mod Jobs
pub mod Race
pub mod Rule
pub mod Schedule
pub mod Seats
pub mod Three
