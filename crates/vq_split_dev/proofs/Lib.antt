pub mod AreaLaws
pub mod ChainLaws
pub mod GiveLaws
pub mod WalkLaws
