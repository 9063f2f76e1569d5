pub mod Items
pub mod Dealt
