pub mod Counts
pub mod Shelf
pub mod Sink
pub mod Held
pub mod MemShelf
pub mod NeverFails
pub mod MemSink
