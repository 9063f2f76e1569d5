pub mod Loop
pub mod Written
pub mod Skip
pub mod Turned
pub use Rattle.wasm_grammar.proofs.leb_codec_lemmas as leb_codec_lemmas
pub use Rattle.wasm_grammar.proofs as wasm_grammar_lemmas
