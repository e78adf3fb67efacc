pub mod Lists
pub mod Decided
pub mod Trailing
pub mod History
pub mod Walks
pub mod CallsSay
pub mod FreeBytesSay
pub mod ListsSay
