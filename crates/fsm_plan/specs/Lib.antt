pub mod Managers
pub mod Order
pub mod Blocks
pub mod Plan
