pub mod Rows
pub mod Search
pub mod Look
pub mod Beside
pub mod Firsts
pub mod Least
pub mod Told
