pub mod Keys
pub mod Pids
pub mod First
