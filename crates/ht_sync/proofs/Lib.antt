pub mod LastLaws
pub mod SyncLaws
pub mod SeeLaws
pub mod TrialLaws
pub mod EndLaws
pub mod AnswerLaws
