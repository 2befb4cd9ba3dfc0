pub mod ClosedFaults
pub mod ShortLines
