-- What the laws speak of: lists, and what lies between two steps, passed on from where it is defined.
unfoldable pub use Rattle.bd_laws.specs.Frames.{IsFramed}
pub use Rattle.bd_laws.specs.Frames.{Forest, Framed, Nested, NoChild, OfOthers, Older, OnPaths, OtherFrame, Parent, Part, Waiting}
unfoldable pub use Rattle.bd_laws.specs.Items.{IsQueued}
pub use Rattle.bd_laws.specs.Items.{AllInWindows, AllSit, Apart, AtHome, Distinct, Fresh, Homed, IsInWindows, Once, OtherDeath, OtherNotification, OtherSeat, Queues, Told}
pub use Rattle.bd_laws.specs.Laws.{is_out, out_on}
pub use Rattle.bd_laws.specs.Lists.{In, Pairs}
pub use Rattle.bd_laws.specs.Objects.{Differ, Earlier, Here, Kept, KeptBefore, Named, NotLater, is_earlier}
pub use Rattle.bd_laws.specs.OneWayCalls.{Due, InTurn, IsInTurn, On, OnLists, Out, Received, Rivals, Waits}
pub use Rattle.bd_laws.specs.Quiet.{Elsewhere, IsFollowed, IsQuiet, IsSettled, NoneRipe}
pub use Rattle.bd_laws.specs.Stacks.{Among, AreStacks, LowerThan, Rising, frames_with, last_of}
pub use Rattle.bd_laws.specs.Tidy.{Before, IsTidy}
