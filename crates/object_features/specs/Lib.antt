pub mod Said
pub mod Check
pub mod Tail
pub mod Onto
pub mod Used
pub mod Judged
pub mod Laws
pub mod Rows
pub use Rattle.feature_section.specs as feature_section
