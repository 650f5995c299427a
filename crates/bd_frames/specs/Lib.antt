pub mod Words
pub mod Places
pub mod InOrder
pub mod Children
pub mod Linked
pub mod Stands
pub mod Room
