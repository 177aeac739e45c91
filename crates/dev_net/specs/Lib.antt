pub mod Network
pub mod Frames
pub mod Serve
