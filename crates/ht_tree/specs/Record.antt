-- What is recorded of a fault, and what it means.
pub mod Rising
pub mod Refutations
pub mod ToldChains
pub mod Reached
pub mod SearchRecords
pub mod AimedAttempts
pub mod AbortRecords
pub mod RefutationsFrom
pub mod ToldUnder
pub mod ClosedFamilies
pub mod FamilyRows
pub mod Entries
