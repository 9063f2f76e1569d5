pub mod Codes
pub mod LiveRefs
pub mod Noted
pub mod Joined
pub mod Asked
pub mod Lists
pub mod Firsts
pub mod Types
pub use Rattle.link_program.specs as link_program
