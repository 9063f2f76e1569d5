pub mod Filled
pub mod Outputs
pub use Rattle.link_worlds.specs as link_worlds
pub use Rattle.link_worlds.specs.link_rules as link_rules
