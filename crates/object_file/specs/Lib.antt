pub mod Objects
pub mod Building
pub mod ObjectOf
pub mod Exports
pub mod Rows
pub mod Spaces
pub mod Sound
pub mod Spellable
pub mod Addresses
pub mod Bodies
pub use Rattle.object_rules.specs.wl_base as wl_base
pub use Rattle.object_rules.specs.wl_lists as wl_lists
pub use Rattle.object_rules.specs.leb_codec as leb_codec
pub use Rattle.object_rules.specs.wasm_types as wasm_types
pub use Rattle.object_rules.specs.wasm_module as wasm_module
pub use Rattle.object_rules.specs.reloc_section as reloc_section
pub use Rattle.object_rules.specs.linking_section as linking_section
pub use Rattle.object_rules.specs.body_windows as body_windows
pub use Rattle.object_rules.specs.object_parts as object_parts
pub use Rattle.object_rules.specs as object_rules
pub use Rattle.object_columns.specs as object_columns
