pub mod There
pub mod DrivenScript
pub mod Represents
