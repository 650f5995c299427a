pub mod Keys
pub mod Order
pub mod New
pub mod Room
pub mod Stands
