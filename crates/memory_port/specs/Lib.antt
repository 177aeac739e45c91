pub mod MemoryTable
pub mod Puts
