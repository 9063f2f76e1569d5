pub mod Found
pub mod Seen
pub mod Bodies
pub mod Spans
pub mod Tails
