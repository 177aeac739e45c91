pub mod ReportLaws
pub mod RunLaws
pub mod EndLaws
pub mod StandLaws
