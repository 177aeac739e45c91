pub mod Features
pub mod Status
