pub mod Kinds
pub mod Turns
pub mod Imports
pub mod Placed
pub mod Code
pub mod Adding
pub mod Sections
pub mod Reading
pub mod Early
pub mod Spans
pub use Rattle.wasm_instr.specs.wl_base as wl_base
pub use Rattle.wl_lists.specs as wl_lists
pub use Rattle.wasm_instr.specs.leb_codec as leb_codec
pub use Rattle.wasm_instr.specs.wasm_grammar as wasm_grammar
pub use Rattle.wasm_instr.specs.wasm_types as wasm_types
pub use Rattle.wasm_instr.specs as wasm_instr
pub use Rattle.wasm_module.specs.wasm_sections as wasm_sections
pub use Rattle.wasm_module.specs as wasm_module
pub use Rattle.body_windows.specs.reloc_section as reloc_section
pub use Rattle.linking_section.specs as linking_section
pub use Rattle.body_windows.specs as body_windows
