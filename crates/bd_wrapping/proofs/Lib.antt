pub mod Walks
pub mod Founds
pub mod Writes
pub mod Copies
pub mod Puts
