-- Clauses on the latches, windows and searches under them, and invariants.
pub mod Clauses
pub mod ClauseWindows
pub mod ClauseSearches
pub mod Invariants
pub mod SealedInClauses
