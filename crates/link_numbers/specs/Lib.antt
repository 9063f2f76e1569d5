pub mod Places
pub mod Rows
pub mod Knows
pub mod Numbered
pub mod SharedNumbered
pub mod Laws
pub use Rattle.link_keys.specs as link_keys
pub use Rattle.shared_keys.specs as shared_keys
