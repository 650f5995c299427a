-- The law RepliesAnswerTheLatestOpenCall: what is told of calls is read in the order in which they ended.
pub mod Callers
pub mod OpenCalls
pub mod Unread
pub mod EndedCalls
pub mod Lined
pub mod SingleAnswers
pub mod LatestOpen
pub mod LatestCall
