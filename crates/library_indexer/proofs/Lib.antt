pub mod Never
pub mod Names
pub mod Gains
pub mod Cut
pub mod Spelled
pub mod Numbers
pub mod Moved
pub mod Read
