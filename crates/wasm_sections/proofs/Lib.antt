pub mod Loop
pub mod FrameLaws
