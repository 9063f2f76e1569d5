pub mod Linked
pub mod Numbered
pub mod Placed
mod Rows
pub use Rattle.link_facts.specs as link_facts
pub use Rattle.program_build.specs as program_build
