pub mod Looks
pub mod Trials
pub mod ClosingRounds
pub mod UnderWay
pub mod FoundClauses
pub mod Offers
pub mod FromStates
