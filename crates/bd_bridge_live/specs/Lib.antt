pub mod Lists
pub mod Deferring
pub mod Live
