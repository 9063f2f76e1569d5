pub mod Imports
pub mod Sections
pub mod Joined
pub use Rattle.link_layout.specs as link_layout
pub use Rattle.link_layout.specs.link_numbers as link_numbers
