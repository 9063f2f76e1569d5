pub mod Command
pub mod Ending
pub mod Line
pub mod ReadCause
pub mod Said
pub mod Status
pub mod Telling
pub use Rattle.link_core.specs.mismatch_rules as mismatch_rules
