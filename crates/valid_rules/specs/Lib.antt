pub mod Leads
pub mod Reading
pub mod Exact
pub mod Examples
