mod OneNames
mod MeantTypes
mod ObjectTypes
mod Operands
mod Parts
mod KeyTypes
mod OneTypes
mod Variants
mod Links
mod Modes
pub use Rattle.valid_links.proofs.output_check_lemmas as output_check_lemmas
