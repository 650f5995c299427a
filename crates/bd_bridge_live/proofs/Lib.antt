pub mod Threads
pub mod Naming
pub mod Deferrings
