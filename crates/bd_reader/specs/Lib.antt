pub mod Readers
pub mod Returns
pub mod Facts
