-- Open calls lie on paths. What SpacesAreTidy and FramesAreStacks know of frames.
pub mod PathWords
pub mod Forests
pub mod FrameChanges
pub mod NewFrames
pub mod Innermost
pub mod Paths
pub mod PathCalls
pub mod PathReadings
pub mod PathExits
pub mod EveryPath
