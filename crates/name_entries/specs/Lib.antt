pub mod View
pub mod Parts
pub mod Fits
pub mod Shown
pub mod Rows
pub mod Pieces
pub use Rattle.name_rules.specs.object_file.wl_base as wl_base
pub use Rattle.name_rules.specs.object_file.wl_lists as wl_lists
pub use Rattle.name_rules.specs.object_file.wasm_types as wasm_types
pub use Rattle.name_rules.specs.object_file.wasm_module as wasm_module
pub use Rattle.name_rules.specs.object_file.reloc_section as reloc_section
pub use Rattle.name_rules.specs.object_file.linking_section as linking_section
pub use Rattle.name_rules.specs.object_file.body_windows as body_windows
pub use Rattle.name_rules.specs.object_file.object_parts as object_parts
pub use Rattle.name_rules.specs.object_file.object_rules as object_rules
pub use Rattle.name_rules.specs.object_file.object_columns as object_columns
pub use Rattle.name_rules.specs.object_file as object_file
pub use Rattle.made_symbols.specs as made_symbols
pub use Rattle.name_rules.specs as name_rules
pub use Rattle.link_names.specs as link_names
