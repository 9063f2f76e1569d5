pub mod Facts
pub mod Columns
pub mod Standing
pub mod Sights
pub mod Known
pub mod Referring
pub mod Laws
pub use Rattle.link_program.specs as link_program
pub use Rattle.partial_rules.specs as partial_rules
