pub mod DecideLaws
pub mod JustifiedLaws
