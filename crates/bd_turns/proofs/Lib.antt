pub mod Mapped
pub mod Entries
pub mod Changes
