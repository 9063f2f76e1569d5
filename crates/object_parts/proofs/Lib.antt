pub mod Loop
pub mod Sections
pub mod ReadEarly
pub mod Stays
pub mod Turned
pub mod Items
pub mod Imported
pub mod Added
pub mod Lying
pub use Rattle.body_windows.proofs as body_windows_lemmas
pub use Rattle.wasm_module.proofs.wasm_sections_lemmas as wasm_sections_lemmas
pub use Rattle.wasm_grammar.proofs as wasm_grammar_lemmas
