pub mod KindLaws
pub mod RangeLaws
pub mod DrawLaws
pub mod NameLaws
pub mod CircuitLaws
pub mod TextLaws
pub mod ShortLaws
mod KnownNetlist
