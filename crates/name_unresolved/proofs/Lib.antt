mod Least
mod Places
mod Pieces
mod Closed
mod Live
mod Meant
