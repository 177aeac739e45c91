pub mod Fields
pub mod Interrupts
pub mod Layout
pub mod Mmio
pub mod QueueBlock
