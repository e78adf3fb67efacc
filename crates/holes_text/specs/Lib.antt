pub mod Listing
pub mod Holes
