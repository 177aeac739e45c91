pub mod Costs
pub mod InOrder
