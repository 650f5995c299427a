pub mod Threads
pub mod Buffers
pub mod Places
