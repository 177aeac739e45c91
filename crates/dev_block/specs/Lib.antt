pub mod Request
pub mod Check
pub mod Sectors
pub mod Calls
pub mod Answer
pub mod Serve
