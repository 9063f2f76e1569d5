mod Lists
mod Candidate
mod References
mod Windows
mod Standing
mod Names
mod Steps
mod Named
mod Grown
mod Finding
pub use Rattle.loose_calls.proofs as loose_calls_lemmas
pub use Rattle.loose_calls.proofs.link_program_lemmas as link_program_lemmas
