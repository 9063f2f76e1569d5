pub mod Customs
pub mod SectionLaws
pub mod ModuleLaws
pub mod WriteLaws
pub mod ButPlaces
pub use Rattle.wasm_sections.proofs as wasm_sections_lemmas
pub use Rattle.wasm_instr.proofs as wasm_instr_lemmas
