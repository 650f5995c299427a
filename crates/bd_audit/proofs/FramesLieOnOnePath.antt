-- The law FramesLieOnOnePath.
pub mod PathLaw
