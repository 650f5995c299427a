-- The law FramesAreStacks: the innermost frame of a thread is the last of its stack. The law itself is in Stacks.
pub mod LastFrame
