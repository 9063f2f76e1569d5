mod Marks
mod Offered
mod Tables
mod Listed
mod Told
