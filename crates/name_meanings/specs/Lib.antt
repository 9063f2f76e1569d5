pub mod Means
pub mod Kept
pub mod Columns
pub mod Known
pub mod Further
mod Examples
pub use Rattle.name_entries.specs as name_entries
