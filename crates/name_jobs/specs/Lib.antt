pub mod Offers
pub mod Races
pub mod Rows
pub use Rattle.name_entries.specs as name_entries
