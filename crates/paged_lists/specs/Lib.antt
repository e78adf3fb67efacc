pub mod Kinds
pub mod Pages
pub mod PagesSay
pub mod PagedCalls
pub mod PagedHistory
pub mod RefusalsSay
pub mod Steps
pub mod Cases
