pub mod Segments
pub mod Placed
pub mod Seen
pub mod Cells
pub mod FirstGlobals
pub mod Rows
pub mod Put
pub mod Layout
pub mod Sources
pub mod Parts
pub mod PartLaws
pub use Rattle.link_numbers.specs as link_numbers
