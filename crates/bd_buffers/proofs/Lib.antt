mod Words
pub mod Places
pub mod Units
pub mod Made
pub mod Live
pub mod Kept
pub mod Standing
pub mod Noted
pub mod InSpace
pub mod AllWindows
pub mod WindowLaws
pub mod Marks
