mod Pieces
mod Numbers
mod Options
mod Inputs
mod Plans
