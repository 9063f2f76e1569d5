mod Lists
mod Folds
mod Cells
pub mod Held
mod Placed
mod Sighted
mod Flagged
mod Stands
pub mod Numbered
pub mod Whole
pub mod Referring
pub use Rattle.link_program.proofs as link_program_lemmas
