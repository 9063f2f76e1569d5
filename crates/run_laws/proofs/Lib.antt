mod Begun
mod Traced
