-- What holds between two steps.
use Rattle.bd_space.specs.Space.{Space}
use Rattle.bd_laws.specs.OneWayCalls.{IsInTurn, Received}
use Rattle.bd_laws.specs.Objects.{KeptBefore}
use Rattle.bd_laws.specs.Items.{AtHome, IsInWindows, Told, Once, IsQueued}
use Rattle.bd_laws.specs.Frames.{IsFramed, OnPaths, OfOthers}
use Rattle.bd_laws.specs.Quiet.{IsQuiet}

-- one-way calls are in turn and with their receivers, objects are kept
pub record Before (s : Space) : Type 0 where
  pub turns : IsInTurn s
  pub objects : KeptBefore s
  pub received : Received s

-- nothing is pending, and each thing is where it belongs
pub record IsTidy (s : Space) : Type 0 where
  pub before : Before s
  pub told : Told s
  pub home : AtHome s
  pub in_windows : IsInWindows s
  pub on_paths : OnPaths s.steps s
  pub of_others : OfOthers s
  pub once : Once s.todo
  pub quiet : IsQuiet s
  pub queued : IsQueued s
  pub framed : IsFramed s
