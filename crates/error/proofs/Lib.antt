pub mod TestLaws
pub mod OutcomeLaws
pub mod OverLaws
pub mod EndsLaws
