pub mod Parts
pub mod ValidInPart
pub mod TroubleInPart
pub mod PartReportJudging
pub mod PartReportJudgeOf
pub mod JudgedInPart
pub mod PutTogether
