pub mod RouteLaws
pub mod LegalLaws
pub mod WaitLaws
pub mod GoesLaws
pub mod EndLaws
pub mod LaterLaws
pub mod WindowStepLaws
pub mod WindowBackLaws
