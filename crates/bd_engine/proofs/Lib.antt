mod Words
pub mod Noting
pub mod Ending
pub mod Asked
pub mod Keeping
pub mod Commands
pub mod Courses
pub mod Runs
pub mod Reaching
pub mod Handles
pub mod Begun
pub mod Short
