pub mod Held
pub mod Shelves
pub mod Came
