-- How much room is wanted.
use Rattle.std.specs.Prelude.{ℕ, ◌≤◌}
use Rattle.bd_objects.specs.declared.room.Room.{Room}

-- for at most so many of each, but for names, whose room is a process's
pub record IsWithin (room : Room) (each : ℕ) : Type 0 where
  pub objects_fit : room.objects ≤ each
  pub references_fit : room.references ≤ each
  pub deaths_fit : room.deaths ≤ each
