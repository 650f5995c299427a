pub mod Loop
pub mod Headings
pub mod Laws
pub mod SeatsTold
pub mod Whole
pub mod Cuts
pub mod Unread
pub mod Stepping
