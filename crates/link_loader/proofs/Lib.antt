pub mod Lists
mod Flagged
mod Unused
mod AlwaysBound
mod Greatest
pub mod Stands
pub mod Bases
pub mod Known
pub mod PlacesTold
pub mod WordsTold
mod Anys
mod StrongTold
mod WeakTold
mod SectionTold
mod SolidTold
pub mod Standing
pub mod Whole
pub use Rattle.link_layout.proofs as link_layout_lemmas
