pub mod Families
pub mod FamilyFrames
