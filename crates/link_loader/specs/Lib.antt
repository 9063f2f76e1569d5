pub mod Cells
pub mod Words
pub mod Bound
pub mod Weak
pub mod Section
pub mod Layout
pub use Rattle.link_layout.specs as link_layout
