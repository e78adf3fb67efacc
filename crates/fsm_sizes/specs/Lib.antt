pub mod Windows
pub mod Chained
pub mod Totals
pub mod Ordered
