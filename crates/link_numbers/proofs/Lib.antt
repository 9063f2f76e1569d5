pub mod Knows
pub mod Ordered
pub mod KeysTold
pub mod Coded
mod ReadAt
mod Rows
pub mod TypesTold
pub mod Whole
pub mod SharedWhole
pub mod PlaceSteps
pub mod Begun
pub mod Composed
pub mod SharedComposed
pub use Rattle.link_keys.proofs as link_keys_lemmas
pub use Rattle.shared_keys.proofs as shared_keys_lemmas
