pub mod ExtendedLaws
pub mod BredLaws
