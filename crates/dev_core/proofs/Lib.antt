pub mod ConfigLaws
pub mod ServeLaws
