pub mod Legal
pub mod Routes
pub mod Outcomes
pub mod WindowSteps
pub mod Progressed
