pub mod Merge
pub mod Named
pub mod Accepting
pub mod Judging
pub mod Steps
