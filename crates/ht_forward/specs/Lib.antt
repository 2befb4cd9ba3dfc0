pub mod Goals
pub mod Shallow
pub mod Lengths
pub mod RunGoals
pub mod LengthAnswers
pub mod AheadSearches
pub mod Sweeps
