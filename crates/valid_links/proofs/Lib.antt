mod OneNames
mod MeantTypes
mod ObjectTypes
mod Operands
mod Bytes
mod Parts
mod KeyTypes
mod OneTypes
mod Variants
mod Candidates
mod NoCheck
mod Links
pub use Rattle.output_check.proofs as output_check_lemmas
pub use Rattle.link_runs.proofs as link_runs_lemmas
