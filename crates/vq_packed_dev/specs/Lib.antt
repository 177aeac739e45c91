pub mod Walk
pub mod Give
pub mod Shown
