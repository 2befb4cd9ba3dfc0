pub mod RowLaws
pub mod WordLaws
pub mod BitLaws
