mod Asking
mod Moved
mod Table
mod Turning
mod Writes
