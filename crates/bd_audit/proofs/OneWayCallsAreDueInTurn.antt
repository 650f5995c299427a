-- The law OneWayCallsAreDueInTurn.
pub mod DueInTurn
