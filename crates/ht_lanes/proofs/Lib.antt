pub mod OperationLaws
pub mod LaneLaws
pub mod StuckLaws
pub mod QueryLaws
pub mod FourLaws
