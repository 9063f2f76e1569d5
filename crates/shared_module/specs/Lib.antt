pub mod Applied
pub mod Outputs
pub mod Fit
mod Rows
pub use Rattle.output_module.specs as output_module
pub use Rattle.output_module.specs.link_worlds as link_worlds
