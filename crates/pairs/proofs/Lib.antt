pub mod CopyLaws
pub mod PairLaws
pub mod RunLaws
