mod Named
mod Keys
pub mod Programs
mod Short
pub mod Links
pub use Rattle.shared_laws.proofs as shared_laws_lemmas
pub use Rattle.shared_module.proofs as shared_module_lemmas
pub use Rattle.link_runs.proofs as link_runs_lemmas
pub use Rattle.link_runs.proofs.link_facts_lemmas as link_facts_lemmas
pub use Rattle.link_runs.proofs.link_worlds_lemmas as link_worlds_lemmas
