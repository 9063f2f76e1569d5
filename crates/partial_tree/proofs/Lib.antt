mod Listed
mod Initial
mod Relocated
pub use Rattle.partial_symbols.proofs as partial_symbols_lemmas
pub use Rattle.partial_parts.proofs as partial_parts_lemmas
pub use Rattle.partial_symbols.proofs.link_program_lemmas as link_program_lemmas
