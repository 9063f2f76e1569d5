pub mod Classes
pub mod Instrs
pub mod Reading
pub mod BlockLaws
pub mod InstrLaws
pub mod Bodies
pub mod BodyLaws
pub mod BodyBounds
pub mod Skimming
pub mod SkimLaws
pub mod Places
pub mod Stays
pub mod Placeless
pub mod Examples
pub use Rattle.wasm_grammar.specs.wl_base as wl_base
pub use Rattle.wasm_grammar.specs.leb_codec as leb_codec
pub use Rattle.wasm_grammar.specs as wasm_grammar
pub use Rattle.wasm_types.specs as wasm_types
