-- What stands on a thread's list hands over only what its process receives, and no thread reads a call of its own. What
-- SpacesAreTidy knows of receivers.
pub mod Later
pub mod HomesSent
pub mod Homes
pub mod InWindows
pub mod OtherCalls
