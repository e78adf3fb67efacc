pub mod Le
pub mod Width
pub mod Ranges
pub mod Layout
