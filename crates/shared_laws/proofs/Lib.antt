pub mod Lie
pub mod Places
pub mod Solid
pub mod Globals
pub mod Data
pub mod Read
pub mod Linked
pub mod Kept
pub mod Meant
pub mod Rows
pub mod Named
pub mod Standing
pub mod Programs
pub mod Steps
pub mod Foreign
pub mod Numbered
pub mod Placed
pub use Rattle.link_facts.proofs as link_facts_lemmas
pub use Rattle.link_facts.proofs.link_worlds_lemmas as link_worlds_lemmas
