pub mod DigitLaws
pub mod EndLaws
pub mod LineLaws
pub mod OutcomeLaws
pub mod ReportsLaw
pub mod RunLaws
pub mod SendLaws
