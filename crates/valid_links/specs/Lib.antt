pub mod Types
pub mod Links
pub use Rattle.link_runs.specs as link_runs
pub use Rattle.output_check.specs as output_check
