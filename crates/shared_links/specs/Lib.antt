pub mod Links
pub use Rattle.shared_laws.specs as shared_laws
pub use Rattle.shared_module.specs as shared_module
pub use Rattle.link_runs.specs as link_runs
pub use Rattle.link_runs.specs.link_facts as link_facts
pub use Rattle.link_runs.specs.link_program as link_program
pub use Rattle.link_runs.specs.link_inputs as link_inputs
pub use Rattle.shared_module.specs.link_worlds as link_worlds
pub use Rattle.shared_module.specs.output_module as output_module
pub use Rattle.shared_laws.specs.program_build as program_build
