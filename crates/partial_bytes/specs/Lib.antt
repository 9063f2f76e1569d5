pub mod Items
pub mod Measured
pub mod PieceLaws
pub mod Pieces
pub mod Relocs
pub mod Some
pub mod Told
pub mod Written
