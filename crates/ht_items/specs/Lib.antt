pub mod FlatRowsOf
pub mod Bits
pub mod BitSets
