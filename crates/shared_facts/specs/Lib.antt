pub mod Facts
pub use Rattle.shared_links.specs as shared_links
pub use Rattle.shared_types.specs as shared_types
