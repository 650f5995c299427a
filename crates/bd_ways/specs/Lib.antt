pub mod Words
pub mod Tables
pub mod Identities
pub mod Ranges
pub mod Local
pub mod LocalExits
