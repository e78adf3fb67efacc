pub mod CallLaws
pub mod LineLaws
