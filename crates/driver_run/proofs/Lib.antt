pub mod SentLaws
pub mod OperationLaws
