pub mod Slow
pub mod SlowDetection
pub mod ExpandedLine
pub mod LineNames
pub mod Expanded
