mod FirstGlobals
pub mod Fewer
pub mod MadeData
pub mod Pairs
pub mod Steps
pub mod Patched
pub mod Gathered
pub mod Divided
pub mod Filled
pub mod Parts
pub mod PlacedTold
pub mod KeysTold
pub mod Linkers
pub mod CellsTold
pub mod Told
pub mod Windows
pub mod Sources
pub use Rattle.link_numbers.proofs as link_numbers_lemmas
