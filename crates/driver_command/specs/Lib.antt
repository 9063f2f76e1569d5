pub mod Causes
pub mod Ends
pub mod Linked
pub mod Manual
pub mod Mismatched
pub mod Named
pub mod Told
