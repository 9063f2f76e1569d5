mod Summed
mod Numbers
mod LostInits
mod AtExit
mod Naming
mod Whole
