mod GateLaws
mod LoadLaws
mod LineLaws
mod PairLaws
pub mod RunLaws
mod FaultListLaws
mod ValueUnionLaws
mod UnionLaws
mod OrderLaws
mod LeaderLaws
pub mod ClassLaws
pub mod OwnLaws
pub mod ListLaws
pub mod SiteLaws
pub mod MemberLaws
pub mod DistinctLaws
