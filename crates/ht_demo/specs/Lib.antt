pub mod Counts
pub mod Draws
pub mod Demo
pub mod DemoText
