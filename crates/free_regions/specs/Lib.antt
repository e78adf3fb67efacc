pub mod Regions
pub mod Units
pub mod Sets
