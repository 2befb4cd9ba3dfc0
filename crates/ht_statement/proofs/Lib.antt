pub mod TokenLaws
pub mod WordLaws
pub mod NameLaws
pub mod StatementTextLaws
pub mod ArgumentLaws
pub mod StatedLaws
pub mod PrintLaws
