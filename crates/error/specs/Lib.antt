pub mod Refusals
pub mod Outcome
pub mod Lent
pub mod Answers
pub mod Ends
