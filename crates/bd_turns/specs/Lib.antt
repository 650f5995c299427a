pub mod Turn
pub mod Spots
pub mod Entries
pub mod Stands
pub mod Room
