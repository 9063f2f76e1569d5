pub mod Named
pub mod Steps
pub mod Lost
pub use Rattle.link_program.specs as link_program
