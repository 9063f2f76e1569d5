pub mod Objects
pub mod Leads
pub mod Symbols
pub mod Winners
pub mod Types
pub mod Views
pub mod Rows
pub mod Gains
pub mod Pieces
pub mod Inits
pub mod Loose
pub use Rattle.link_program.specs as link_program
