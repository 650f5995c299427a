pub mod Results
pub mod Owners
pub mod Fitting
pub mod Giving
pub mod Homed
pub mod Ending
pub mod Apart
pub mod Referring
pub mod BufferReferences
pub mod Changes
pub mod Holding
pub mod Handshakes
pub mod Telling
pub mod AtName
pub mod Lost
pub mod Covering
pub mod Later
pub mod Owned
mod Spent
mod Words
