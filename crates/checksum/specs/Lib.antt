pub mod Lookup3
pub mod LastBlock
pub mod Trailing
