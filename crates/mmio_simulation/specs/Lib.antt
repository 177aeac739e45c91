pub mod Bus
pub mod Related
