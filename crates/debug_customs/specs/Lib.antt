pub mod Customs
pub mod Objects
pub use Rattle.debug_rules.specs as debug_rules
