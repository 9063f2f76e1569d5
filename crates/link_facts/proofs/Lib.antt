mod Found
mod Segments
mod Rising
mod Values
pub mod Symbols
pub mod Meant
pub mod Parts
pub mod Refs
pub mod SoundPrograms
mod Bytes
pub mod Coded
mod Reading
pub mod Loosened
mod AllFacts
pub mod Steps
pub mod Loads
pub use Rattle.output_module.proofs.link_worlds_lemmas as link_worlds_lemmas
