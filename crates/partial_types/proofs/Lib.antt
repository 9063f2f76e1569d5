mod Merged
pub use Rattle.partial_imports.proofs as partial_imports_lemmas
