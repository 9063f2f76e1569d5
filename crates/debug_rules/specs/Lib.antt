pub mod Sections
pub mod Faults
pub mod Joined
pub mod Rows
pub mod FaultRows
