pub mod QueueCalls
pub mod RefusalLaws
