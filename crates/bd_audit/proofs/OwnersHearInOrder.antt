-- The law OwnersHearInOrder: what an owner was told agrees with what it has heard, step by step.
pub mod Orders
pub mod Tracking
pub mod Telling
pub mod Tallies
pub mod Returns
pub mod Readings
pub mod Acknowledging
pub mod Heard
