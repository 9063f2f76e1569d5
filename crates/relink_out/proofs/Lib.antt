pub mod Chained
pub mod Trees
pub mod Ends
