pub mod Rounds
pub mod RoundLaws
pub mod Inputs
pub mod Rows
