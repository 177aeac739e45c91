pub mod Shown
pub mod Pair
