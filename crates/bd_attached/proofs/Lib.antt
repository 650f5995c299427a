pub mod Staying
pub mod Own
pub mod Stays
