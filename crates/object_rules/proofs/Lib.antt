mod Seen
mod Found
mod Each
pub use Rattle.object_parts.proofs.body_windows_lemmas as body_windows_lemmas
pub use Rattle.object_parts.proofs as object_parts_lemmas
pub use Rattle.object_parts.proofs.wasm_sections_lemmas as wasm_sections_lemmas
pub use Rattle.object_parts.proofs.wasm_grammar_lemmas as wasm_grammar_lemmas
