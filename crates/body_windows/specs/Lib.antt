pub mod Operands
pub mod Fault
pub mod Immediates
pub mod Windows
pub mod Merging
pub mod Quick
pub mod Scanning
pub mod Rows
pub use Rattle.wasm_instr.specs as wasm_instr
pub use Rattle.reloc_section.specs as reloc_section
