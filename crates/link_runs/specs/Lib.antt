pub mod Runs
pub mod Links
pub use Rattle.link_facts.specs as link_facts
pub use Rattle.link_inputs.specs as link_inputs
pub use Rattle.link_output.specs.link_program as link_program
