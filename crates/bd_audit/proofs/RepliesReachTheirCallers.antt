-- The law RepliesReachTheirCallers: what frames and replies have behind them, and that a call is handed out and answered once.
pub mod Quiet
pub mod Traces
pub mod Answering
pub mod RepliesDue
pub mod ReplyTaken
pub mod Places
pub mod Readings
pub mod CallsOnce
pub mod ReplyLaw
