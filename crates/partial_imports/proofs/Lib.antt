mod Opened
pub use Rattle.partial_symbols.proofs as partial_symbols_lemmas
pub use Rattle.partial_symbols.proofs.link_program_lemmas as link_program_lemmas
