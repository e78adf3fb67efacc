pub mod WordLaws
pub mod TailLaws
pub mod LastBlockLaws
pub mod HashLaws
pub mod TrailingLaws
