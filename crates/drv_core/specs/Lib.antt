pub mod Calls
pub mod Driver
pub mod Lowering
