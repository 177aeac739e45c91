pub mod Lines
pub mod Script
pub mod Shows
pub mod Stands
