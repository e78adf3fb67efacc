pub mod ExactLaws
pub mod AlikeLaws
pub mod StrictReadingLaws
pub mod Cases
