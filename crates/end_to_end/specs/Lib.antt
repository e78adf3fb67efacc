pub mod Encoding
pub mod Cuts
pub mod Demanded
pub mod Anew
pub mod AfterSteps
