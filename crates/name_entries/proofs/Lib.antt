pub mod Numbers
pub mod Found
pub mod Indexed
pub mod Rows
pub mod Held
pub mod Numbered
pub mod Grouped
pub mod Few
pub mod Each
pub mod Added
pub mod Along
pub mod Told
pub use Rattle.name_rules.proofs.object_file_lemmas as object_file_lemmas
