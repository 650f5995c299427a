pub mod Keys
pub mod Walk
pub mod Tree
pub mod Room
pub mod Treed
pub mod Look
pub mod Numbers
pub mod Tables
