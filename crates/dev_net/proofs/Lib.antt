pub mod FrameLaws
pub mod NetworkLaws
