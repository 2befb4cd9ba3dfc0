pub mod Jobs
pub mod Inputs
pub mod Refusals
pub mod Errors
pub mod Reading
pub mod Judging
pub mod Grading
