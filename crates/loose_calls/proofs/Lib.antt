pub mod Growing
pub mod Asked
pub mod Behind
pub mod Whole
pub mod Marked
pub mod Leading
pub mod Listing
pub use Rattle.program_tables.proofs.link_program_lemmas as link_program_lemmas
