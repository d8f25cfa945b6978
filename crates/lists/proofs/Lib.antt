pub mod RunLaws
pub mod PeakLaws
pub mod ListLaws
pub mod NameLaws
