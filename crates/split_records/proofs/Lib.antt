pub mod CutLaws
pub mod RecordLaws
pub mod PairLaws
