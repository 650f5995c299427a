pub mod Changed
pub mod Identities
pub mod Keyed
