pub mod Ends
pub mod Winners
pub mod Told
mod Near
mod Pages
mod Front
pub mod Pieces
pub mod Whole
pub use Rattle.link_layout.proofs as link_layout_lemmas
pub use Rattle.link_loader.proofs as link_loader_lemmas
pub use Rattle.link_loader.proofs.Lists as Lists
