pub mod Found
pub mod Interned
pub mod Told
pub use Rattle.program_tables.specs as program_tables
pub use Rattle.program_tables.specs.link_program as link_program
pub use Rattle.name_cases.specs as name_cases
