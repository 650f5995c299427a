mod HandleSteps
mod Values
pub mod Behind
pub mod Keys
pub mod Answering
pub mod Commanding
pub mod Noting
pub mod Making
pub mod NewSeats
pub mod GivenAgain
pub mod Walking
pub mod Ahead
pub mod Looking
pub mod Laying
pub mod Settling
pub mod Certifying
pub mod Judged
pub mod HandingOut
