-- The law WhomAStepReaches: what a step leaves of another seat, and what that seat is ready for.
pub mod OtherSeats
pub mod Reached
