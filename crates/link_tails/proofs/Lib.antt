pub mod Parts
mod Keeps
mod Offsets
