pub mod CellIs
pub mod Put
pub mod CalledTold
pub mod CellsTold
pub mod GlobalsTold
pub use Rattle.link_keys.proofs as link_keys_lemmas
