mod Fitting
mod OutputsRun
mod Candidates
mod Ranges
mod Few
mod Constants
mod Leb
mod Limits
pub mod Length
mod Names
pub mod Given
mod Ranged
pub mod LinksRun
pub use Rattle.link_facts.proofs as link_facts_lemmas
pub use Rattle.link_facts.proofs.link_worlds_lemmas as link_worlds_lemmas
