-- The law NothingIsPending: between two steps nothing is due to follow. The law itself is in Next and Always.
pub mod PlainItems
pub mod Quiet
pub mod Noticing
pub mod NextParts
