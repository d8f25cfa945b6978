pub mod NoteLaws
pub mod HopLaws
pub mod TreeLaws
pub mod StepLaws
