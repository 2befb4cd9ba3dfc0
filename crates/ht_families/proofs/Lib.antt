pub mod LeastLaws
pub mod JoinEachLaws
pub mod FamilyFrameLaws
pub mod CloseLaws
pub mod RowLaws
pub mod RowsOfLaws
