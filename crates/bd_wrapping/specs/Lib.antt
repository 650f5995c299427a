pub mod Trailers
pub mod Ways
pub mod Areas
