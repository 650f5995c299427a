-- The law ItemsAreToldApart: no two items of one list have one identity.
pub mod Identities
pub mod Numbered
pub mod Numbering
