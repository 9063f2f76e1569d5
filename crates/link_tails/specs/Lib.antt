pub mod Tails
pub mod Keeps
pub mod Rows
pub use Rattle.debug_tails.specs as debug_tails
pub use Rattle.debug_links.specs as debug_links
pub use Rattle.function_names.specs as function_names
pub use Rattle.object_features.specs as object_features
