pub mod Firsts
pub mod Compared
pub mod Causes
pub mod Kept
pub mod Tracks
pub mod Seats
pub mod CauseTexts
