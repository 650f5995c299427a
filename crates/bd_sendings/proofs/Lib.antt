pub mod Walks
pub mod Counts
pub mod Once
pub mod Told
pub mod Choices
