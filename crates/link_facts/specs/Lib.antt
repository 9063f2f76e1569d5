pub mod Faults
pub mod Loaded
pub mod Facts
pub use Rattle.output_module.specs as output_module
pub use Rattle.output_module.specs.link_worlds as link_worlds
