pub mod Indexed
pub mod Sharing
pub mod Changes
pub mod Ending
pub mod Turning
pub mod Tests
pub mod Queueing
pub mod Looking
pub mod Numbering
pub mod Only
pub mod Telling
mod Words
