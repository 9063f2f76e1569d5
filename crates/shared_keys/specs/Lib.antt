pub mod Called
pub mod Cells
pub mod Foreign
pub mod Lists
pub use Rattle.link_keys.specs as link_keys
