pub mod Calls
pub mod Lowering
