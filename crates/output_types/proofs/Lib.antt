mod Shapes
mod Spaces
pub mod Numbers
mod Meanings
mod Bodies
mod Limits
mod Names
mod Rules
mod Places
pub use Rattle.wasm_valid.proofs as wasm_valid_lemmas
