-- The law TurnsAreTaken: one-way calls of an object are handed out in the order of their turns.
pub mod Logged
pub mod TurnsKept
pub mod TurnLog
pub mod TurnMarks
pub mod CallItemsKept
pub mod CallItems
