pub mod Bursts
pub mod Sensitized
