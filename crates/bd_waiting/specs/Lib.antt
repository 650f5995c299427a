pub mod Waits
pub mod Coming
pub mod Requests
pub mod Cleared
pub mod Loopers
pub mod Laws
