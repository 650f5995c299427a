-- While a Death item stands, its notification is queued. What SpacesAreTidy knows of death notifications.
pub mod QueuedDeaths
pub mod Queueing
