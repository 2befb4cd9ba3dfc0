pub mod Bred
pub mod Extended
pub mod BredText
