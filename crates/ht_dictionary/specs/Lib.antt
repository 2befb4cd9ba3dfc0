pub mod Traces
pub mod Responses
pub mod DiagnosisView
pub mod Diagnoses
pub mod DiagnosisTexts
pub mod ResponseTexts
