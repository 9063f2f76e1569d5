pub mod Asks
pub mod Shares
pub mod Plans
pub mod Going
pub mod Graphs
pub mod Live
