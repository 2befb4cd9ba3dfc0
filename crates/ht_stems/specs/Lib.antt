pub mod ForcedNets
pub mod LoadsOfNets
pub mod Arrivals
pub mod ArrivedFrames
pub mod ArrivalsView
pub mod NetEnds
pub mod ArrivalsOf
