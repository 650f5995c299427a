pub mod Parcels
pub mod Lists
pub mod Whole
