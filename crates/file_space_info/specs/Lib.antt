pub mod Strategies
pub mod Infos
pub mod Message
pub mod RoundTrip
