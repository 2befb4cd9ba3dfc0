pub mod RespondLaws
pub mod TraceLaws
pub mod ConsistencyLaws
pub mod DiagnosisLaws
pub mod RowTextLaws
pub mod DiagnosisTextLaws
pub mod ResponseLaws
