pub mod Flags
pub mod PostedPieces
pub mod Rows
pub mod RowChains
pub mod Tables
pub mod BufferChains
pub mod Meeting
pub mod Outcomes
