pub mod Keeps
pub mod Offsets
pub use Rattle.valid_links.specs as valid_links
pub use Rattle.debug_tails.specs as debug_tails
