pub mod Codes
pub mod Spelling
pub mod Reading
pub mod Writing
pub mod Laid
pub mod Logged
pub mod Records
