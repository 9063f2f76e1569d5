pub mod Asked
pub mod Seen
pub mod Due
pub mod Alive
pub mod About
pub mod Names
pub mod Open
pub mod Fixed
pub mod Laws
pub mod Rows
pub use Rattle.link_program.specs as link_program
