pub mod BoundLaws
pub mod EventLists
pub mod Programs
