pub mod Console
pub mod Serve
