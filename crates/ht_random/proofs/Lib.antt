mod KnownVectors
mod GrownLaws
pub mod RandomVectorLaws
pub mod WeightedLaws
