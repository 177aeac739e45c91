pub mod Known
pub mod Refusal
pub mod Same
