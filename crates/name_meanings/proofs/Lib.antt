mod Filters
mod SameImport
mod Noted
mod Flattened
pub mod Something
pub mod ByNumber
mod Ruled
mod Placed
mod Uses
mod Finding
mod Rowed
mod Rows
mod Whole
mod Besides
pub use Rattle.name_entries.proofs as name_entries_lemmas
