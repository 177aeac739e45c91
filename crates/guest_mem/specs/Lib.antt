pub mod Memory
pub mod Pages
pub mod Arena
pub mod PageMap
