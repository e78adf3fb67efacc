pub mod Decisions
pub mod Encoding
pub mod Shown
