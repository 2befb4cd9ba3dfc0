pub mod KnownLaws
pub mod SearchLaws
