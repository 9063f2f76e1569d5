pub mod Entries
mod Kept
mod Refs
pub mod Meant
pub mod Programs
mod Reading
mod Windows
mod Facts
pub use Rattle.shared_links.proofs as shared_links_lemmas
pub use Rattle.shared_types.proofs as shared_types_lemmas
