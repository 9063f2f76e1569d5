pub mod Told
pub mod Seen
pub mod Keys
pub mod Look
pub mod Meant
pub mod Answers
pub mod Loaded
pub mod Stand
pub mod Program
pub mod Live
pub mod Moved
pub use Rattle.name_meanings.specs.name_entries.wl_base as wl_base
pub use Rattle.name_meanings.specs.name_entries.wl_lists as wl_lists
pub use Rattle.name_meanings.specs.name_entries.wasm_types as wasm_types
pub use Rattle.name_meanings.specs.name_entries.wasm_module as wasm_module
pub use Rattle.name_meanings.specs.name_entries.reloc_section as reloc_section
pub use Rattle.name_meanings.specs.name_entries.linking_section as linking_section
pub use Rattle.name_meanings.specs.name_entries.body_windows as body_windows
pub use Rattle.name_meanings.specs.name_entries.object_parts as object_parts
pub use Rattle.name_meanings.specs.name_entries.object_rules as object_rules
pub use Rattle.name_meanings.specs.name_entries.object_columns as object_columns
pub use Rattle.name_meanings.specs.name_entries.object_file as object_file
pub use Rattle.name_meanings.specs.name_entries.made_symbols as made_symbols
pub use Rattle.name_meanings.specs.name_entries.name_rules as name_rules
pub use Rattle.name_meanings.specs.name_entries.link_names as link_names
pub use Rattle.name_meanings.specs.name_entries as name_entries
pub use Rattle.name_meanings.specs as name_meanings
pub use Rattle.link_rules.specs.round_rules as round_rules
pub use Rattle.lib_index.specs as lib_index
pub use Rattle.symbol_race.specs as symbol_race
pub use Rattle.mark_bits.specs as mark_bits
pub use Rattle.index_layout.specs as index_layout
pub use Rattle.reloc_apply.specs as reloc_apply
pub use Rattle.link_plan.specs as link_plan
pub use Rattle.link_rules.specs as link_rules
pub use Rattle.wl_outside.specs as wl_outside
pub use Rattle.wl_fan.specs as wl_fan
pub use Rattle.link_rules.specs.image_emit as image_emit
pub use Rattle.memory_layout.specs as memory_layout
pub use Rattle.table_layout.specs as table_layout
pub use Rattle.type_merge.specs as type_merge
