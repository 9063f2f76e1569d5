mod Stretches
mod Lists
mod Loaded
mod Asked
mod Functions
mod Globals
mod Standing
mod Links
