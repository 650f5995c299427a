pub mod Numbers
pub mod Hex
pub mod Words
pub mod Text
pub mod Requests
pub mod Scripts
