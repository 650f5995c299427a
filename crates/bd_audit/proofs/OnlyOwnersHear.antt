-- The law OnlyOwnersHear: Notices stand where the owner's threads read them.
pub mod SittingSent
pub mod Sitting
pub mod Owners
