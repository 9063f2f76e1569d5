pub mod Parts
pub mod PartReading
pub mod PartLaws
pub mod PartStays
pub mod Sections
pub mod Modules
pub mod ModuleReading
pub mod Rows
pub use Rattle.wasm_sections.specs as wasm_sections
pub use Rattle.wasm_instr.specs as wasm_instr
