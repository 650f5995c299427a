pub mod Telling
pub mod Loopings
