pub mod Types
pub mod Links
pub use Rattle.valid_links.specs as valid_links
