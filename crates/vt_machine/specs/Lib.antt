pub mod Trace
pub mod Lines
pub mod Machine
pub mod RawMachine
pub mod OperationEvents
pub mod Happens
pub mod IsTraced
