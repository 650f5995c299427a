pub mod Writable
pub mod Plans
pub mod Landed
pub mod Carried
pub mod Descriptors
pub mod Apart
pub mod Linux
