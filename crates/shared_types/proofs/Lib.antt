mod Lists
pub mod Spaces
mod KeyPlaces
mod Shapes
mod Meanings
mod Words
mod Bodies
mod Names
mod Rules
