pub mod EncodingLaws
pub mod CallLaws
pub mod CutLaws
pub mod DemandedLaws
pub mod AnewLaws
pub mod Cases
pub mod AfterStepsLaws
