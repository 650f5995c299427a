-- The law CallsEndLatestFirst: of a living thread's open calls a step ends the latest only.
pub mod LatestFirst
