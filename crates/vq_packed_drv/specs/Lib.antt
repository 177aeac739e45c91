pub mod Cost
pub mod Driver
pub mod Post
pub mod Reap
