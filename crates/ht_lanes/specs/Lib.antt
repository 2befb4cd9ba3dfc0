pub mod Lanes
pub mod Rows
pub mod Inverse
pub mod Four
