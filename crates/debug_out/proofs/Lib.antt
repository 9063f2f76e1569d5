mod Begins
pub mod Bounds
mod ByPlace
mod Grouped
mod Judged
mod Lent
mod Live
pub mod Long
mod Members
mod Names
mod Onto
mod Parts
mod Placed
mod Spelled
pub mod Stands
mod Tail
pub mod Within
