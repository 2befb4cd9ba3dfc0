-- Walks of tokens, the searches that write them, and what they spend.
pub mod Walks
pub mod NodeOf
pub mod WalkOf
pub mod StackOf
pub mod Searches
pub mod Counts
pub mod FoundLists
pub mod Budgets
