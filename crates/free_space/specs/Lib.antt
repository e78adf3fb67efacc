pub mod Runs
pub mod Calls
pub mod Questions
pub mod Decisions
pub mod Passes
pub mod Searches
pub mod Splices
