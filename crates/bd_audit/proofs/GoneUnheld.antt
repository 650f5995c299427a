-- The law GoneUnheld: what is gone never comes back, and nothing refers to it.
pub mod Gone
