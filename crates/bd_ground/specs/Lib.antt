pub mod Peaks
pub mod Tiles
pub mod Holes
