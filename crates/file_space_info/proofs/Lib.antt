pub mod StrategyLaws
pub mod WriteLaws
pub mod ReadLaws
pub mod MessageLaws
