-- The law TurnsTellOfCalls: an object's turns are its accepted one-way transactions.
pub mod CallsOut
pub mod TurnLists
pub mod TurnsTelling
pub mod TurnCalls
