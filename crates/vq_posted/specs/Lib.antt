pub mod Free
pub mod Members
pub mod Order
pub mod Table
pub mod Reap
