pub mod Fshd
pub mod Groups
pub mod Fsse
pub mod Settings
pub mod Checks
pub mod Reading
pub mod Parts
pub mod Named
