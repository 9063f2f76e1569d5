pub mod Tails
pub mod Rows
pub use Rattle.link_debug.specs as link_debug
