-- The law FollowingIsLocal, and where what follows each part of a step lies. What the engine imports of it stands above: Follow,
-- Fewer, Abandoned, Clearing, Ending, Freeing, Leaving, Others, Pings, Refusing, Replying, Sending.
pub mod Finding
pub mod Ripe
pub mod Closings
pub mod Handshakes
pub mod Taking
pub mod Sent
pub mod Left
