pub mod Pieces
pub mod FieldLaws
pub mod Tags
pub mod Laws
pub mod Laying
pub mod Logs
