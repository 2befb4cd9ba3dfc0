pub mod Alike
pub mod Reached
pub mod Relevant
pub mod Steps
pub mod Distances
pub mod Offsets
pub mod Near
