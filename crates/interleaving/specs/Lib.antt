pub mod Asked
pub mod BusDefinition
pub mod Safe
pub mod InProgress
pub mod Agrees
pub mod Kept
pub mod FreeLocations
