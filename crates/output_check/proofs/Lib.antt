pub mod Few
pub mod Passed
pub mod OneByOne
pub mod Runs
pub mod Judging
