pub mod Described
pub mod Posts
pub mod Reaps
