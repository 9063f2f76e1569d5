pub mod Owned
pub mod Types
pub mod Imports
pub mod Items
pub mod Numbered
pub mod Lent
pub mod Groups
pub use Rattle.partial_tree.specs.link_program as link_program
pub use Rattle.partial_tree.specs.partial_rules as partial_rules
pub use Rattle.partial_tree.specs.partial_symbols as partial_symbols
pub use Rattle.partial_tree.specs.partial_parts as partial_parts
pub use Rattle.partial_types.specs.partial_imports as partial_imports
pub use Rattle.partial_types.specs as partial_types
pub use Rattle.partial_tree.specs as partial_tree
pub use Rattle.partial_bytes.specs as partial_bytes
