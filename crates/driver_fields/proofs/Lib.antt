mod Faults
mod Joined
mod Parts
mod Told
