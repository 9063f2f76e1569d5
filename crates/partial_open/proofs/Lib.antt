mod Marked
mod Loops
mod Parts
mod Whole
