pub mod Saving
pub mod Beginning
pub mod EveryCut
