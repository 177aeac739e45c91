pub mod FaultsLaws
pub mod TextLaws
pub mod SinkLaws
pub mod WatchLaws
pub mod TrippedLaws
pub mod MeetsLaws
pub mod DiskCallLaws
