pub mod Seats
pub mod Forgetting
pub mod Signalling
