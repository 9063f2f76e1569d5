pub mod Kept
pub use Rattle.link_program.specs as link_program
