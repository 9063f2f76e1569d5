pub mod Steps
pub mod Answering
pub mod Loading
pub mod Running
pub mod Checking
pub mod Listing
pub mod Tails
pub mod Joined
