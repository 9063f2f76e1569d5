pub mod Candidates
pub mod Customs
pub mod Keeps
pub mod Windows
pub mod Symbols
pub mod Offsets
pub use Rattle.valid_links.proofs.output_check_lemmas as output_check_lemmas
