-- The laws RepliesAreHandedOut and StreamsSpellTheirItems: a reading hands out a BR_REPLY exactly where it takes a reply.
pub mod BuffersSent
pub mod ReplyBuffers
pub mod CarriedReturns
pub mod HandedReplies
