mod Columns
mod Places
mod Mapped
mod Members
mod Held
mod Steps
pub mod Winning
pub mod Targets
mod Marked
mod Leasts
mod Known
mod Opened
mod Working
mod Whole
mod AllMeant
mod Fixing
pub use Rattle.link_program.proofs as link_program_lemmas
