pub mod Cut
pub mod Items
pub mod Meanings
pub mod Numbers
pub mod Rows
pub mod Texts
