pub mod Sendings
pub mod Laws
