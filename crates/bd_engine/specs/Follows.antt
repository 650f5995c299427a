-- What a live engine follows: histories that it doesn't keep.
use Rattle.std.specs.Prelude.{◌≡◌, ◌≤◌, length}
use Rattle.bd_space.specs.Histories.{History, IsLawful, most_steps, space_after}
use Rattle.bd_engine.specs.declared.live.Live.{Live}
use Rattle.bd_step.specs.Stands.{Before}

-- the history is lawful, has as many seats, and the tables stand for the space after it
pub record Follows (l : Live) (h : History) : Type 0 where
  pub seats_are : l.seats ≡ h.seats
  pub some : 1 ≤ h.seats
  pub few : h.seats ≤ 65536
  pub lawful : IsLawful h
  pub stands : Before l.tables.value (space_after h)

-- the same of a history whose places have 32 bits, as an engine's that keeps it
pub record FollowsShort (l : Live) (h : History) : Type 0 where
  pub follows : Follows l h
  pub short : length h.entries ≤ most_steps
