pub mod Words
pub mod RandomVectors
pub mod WeightedVectors
pub mod WeightedOf
