pub mod Rates
pub mod Tallies
pub mod Counts
pub mod Chunks
pub mod NextBlocks
