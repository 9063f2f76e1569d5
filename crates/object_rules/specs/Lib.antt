pub mod Spaces
pub mod Differ
pub mod Indexes
pub mod Symbols
pub mod Metadata
pub mod Relocs
pub mod Windows
pub mod Rules
pub mod Examples
pub use Rattle.object_parts.specs.wl_base as wl_base
pub use Rattle.object_parts.specs.wl_lists as wl_lists
pub use Rattle.object_parts.specs.leb_codec as leb_codec
pub use Rattle.object_parts.specs.wasm_grammar as wasm_grammar
pub use Rattle.object_parts.specs.wasm_types as wasm_types
pub use Rattle.object_parts.specs.wasm_instr as wasm_instr
pub use Rattle.object_parts.specs.wasm_sections as wasm_sections
pub use Rattle.object_parts.specs.wasm_module as wasm_module
pub use Rattle.object_parts.specs.reloc_section as reloc_section
pub use Rattle.object_parts.specs.linking_section as linking_section
pub use Rattle.object_parts.specs.body_windows as body_windows
pub use Rattle.object_parts.specs as object_parts
