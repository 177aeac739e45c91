pub mod BringUp
pub mod Exit
pub mod Machine
