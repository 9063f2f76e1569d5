pub mod Opens
pub use Rattle.partial_symbols.specs.link_program as link_program
pub use Rattle.partial_symbols.specs.partial_rules as partial_rules
pub use Rattle.partial_symbols.specs as partial_symbols
