pub mod EventLaws
pub mod LineLaws
pub mod HappenLaws
pub mod StepLaws
pub mod TraceLaws
