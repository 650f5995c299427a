-- What every law stands on: one walk over the parts of a step (EveryEnding, EveryStep), one induction over histories
-- (every_list), one table of the parts (Table), and what single parts leave.
pub mod Adding
pub mod Deaths
pub mod EveryEnding
pub mod EveryStep
pub mod Fields
pub mod Following
pub mod Marks
pub mod Settled
pub mod Steps
pub mod Table
pub mod Untouched
