pub mod Parts
mod Said
mod Steps
