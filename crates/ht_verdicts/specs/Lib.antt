pub mod Standing
pub mod StandingOf
pub mod Contents
pub mod Kept
