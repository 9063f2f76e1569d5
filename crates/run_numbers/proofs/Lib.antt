pub mod Blocks
mod Rotate
mod Spelling
