pub mod Added
pub use Rattle.partial_imports.specs as partial_imports
