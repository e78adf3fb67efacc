pub mod RoundTrip
pub mod Serializing
pub mod Paged
pub mod Spans
pub mod Writing
pub mod Sorting
