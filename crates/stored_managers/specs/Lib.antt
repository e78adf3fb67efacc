pub mod Storing
pub mod AllOnes
