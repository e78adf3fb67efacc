pub mod PieceLaws
pub mod SplitLaws
