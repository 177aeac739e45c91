pub mod CallsLaws
pub mod RequestLaws
pub mod FillLaws
pub mod SectorsLaws
pub mod ReadLaws
pub mod CarryLaws
pub mod CheckLaws
pub mod ServeLaws
