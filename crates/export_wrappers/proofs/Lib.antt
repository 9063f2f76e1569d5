pub mod Walks
pub mod Passing
pub mod CutLaws
pub mod Bodies
pub mod Spelled
pub mod Putting
pub mod Whole
pub mod Answering
