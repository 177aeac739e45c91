pub mod AccessLaws
pub mod QueueLaws
pub mod Rounds
