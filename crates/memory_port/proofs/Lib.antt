pub mod MemoryLaws
pub mod PutLaws
