pub mod StoreLaws
pub mod NumberLaws
pub mod CutLaws
pub mod StepLaws
pub mod RowLaws
