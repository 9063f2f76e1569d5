mod Places
pub mod Spelled
mod Becoming
mod Written
pub mod Placeless
pub mod Made
pub mod Outputs
pub use Rattle.link_worlds.proofs as link_worlds_lemmas
