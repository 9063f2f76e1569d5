pub mod Entries
pub mod Meanings
pub mod Further
pub mod Cases
pub mod Rows
pub use Rattle.object_file.specs as object_file
