pub mod Fault
pub mod Types
pub mod Same
pub mod TypeLaws
pub mod SameLaws
pub mod TypeBounds
pub mod Stays
pub mod Examples
