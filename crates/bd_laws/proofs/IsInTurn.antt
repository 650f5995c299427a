-- One-way calls are in turn: of each object's, the oldest is due or handed out, and stands with its receiver. What SpacesAreTidy
-- knows of one-way calls.
pub mod OneWay
pub mod Ripening
pub mod InTurn
pub mod Passed
pub mod PassedCalls
pub mod Passing
pub mod Received
