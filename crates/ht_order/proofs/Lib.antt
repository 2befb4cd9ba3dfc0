pub mod RateLaws
pub mod BestLaws
