-- What a change takes of the room for more objects, references and names.
use Rattle.std.specs.Prelude.{false, ℕ, ◌+◌, ◌==◌, ◌≡◌, ◌≤◌}
use Rattle.bd_records.specs.{Records.{new_room, reference_room}, Since.{given_room}, declared.records.Records.{Records}}

-- at most so much of each, of names that of each process
pub record Uses (old new : Records) (objects references names : ℕ) : Type 0 where
  pub objects_fit : new_room old ≤ new_room new + objects
  pub references_fit : reference_room old ≤ reference_room new + references
  pub names_fit : (p : ℕ) → given_room old p ≤ given_room new p + names

-- the same of a change with which the names of a process end, and their room
pub record UsesNothingBut (ended : ℕ) (old new : Records) : Type 0 where
  pub objects_fit : new_room old ≤ new_room new
  pub references_fit : reference_room old ≤ reference_room new
  pub names_fit : (p : ℕ) → (ended == p) ≡ false → given_room old p ≤ given_room new p
