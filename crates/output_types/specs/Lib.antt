pub mod Types
pub mod Spaces
pub mod Functions
pub mod Checked
pub mod Statements
pub use Rattle.valid_objects.specs as valid_objects
pub use Rattle.wasm_valid.specs as wasm_valid
