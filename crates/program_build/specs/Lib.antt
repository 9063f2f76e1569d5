pub mod Standing
pub mod Steps
pub mod Found
pub use Rattle.loose_calls.specs.link_program as link_program
pub use Rattle.name_jobs.specs.name_entries as name_entries
