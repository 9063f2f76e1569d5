pub mod Placing
pub mod Names
pub mod Bodies
pub mod Worlds
pub mod Statements
pub mod Rows
