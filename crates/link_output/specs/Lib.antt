pub mod Written
pub use Rattle.link_program.specs as link_program
pub use Rattle.link_program.specs.link_rules as link_rules
