pub mod Places
pub mod InOrder
pub mod Counting
pub mod Stacking
pub mod Alike
pub mod Ways
pub mod Standing
