pub mod Orders
pub mod Inquiries
