pub mod World
pub mod Serve
pub mod Operate
