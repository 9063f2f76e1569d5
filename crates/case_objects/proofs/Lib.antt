pub mod Count
pub mod ModuleCount
pub mod Walk
