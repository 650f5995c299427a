mod Parts
pub mod Bits
pub mod Tiling
mod Cuts
mod Gifts
mod Listing
mod Pieces
