pub mod Flags
pub mod Linking
pub mod Reading
pub mod Fault
pub mod ItemLaws
pub mod LinkingLaws
pub mod Stays
pub mod Examples
