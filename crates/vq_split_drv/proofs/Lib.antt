pub mod Buffers
pub mod Described
pub mod Posts
pub mod Queues
pub mod Reaps
