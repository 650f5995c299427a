-- What stands at each place, and for how many more there is memory.
use Rattle.std.specs.Prelude.{ℕ, ◌-◌, Bool, false, Option, None, Some, get_or, min, vec_len, vec_capacity}
use Rattle.std.specs.BinaryHeap.{heap_capacity}
use Rattle.bd_places.specs.declared.places.Places.{Places}

module _ {T : Type 0} where
  abbrev pub at : Places T → ℕ → Option T
  at t i = get_or t.rows.items i None

  -- there is a value, and it is meant
  abbrev pub is_there_and : (T → Bool) → Option T → Bool
  is_there_and meant None = false
  is_there_and meant (Some x) = meant x

  -- for so many values there is memory, whether they fill free places or come behind
  abbrev pub place_room : Places T → ℕ
  place_room t = min (vec_capacity t.rows) (heap_capacity t.free) - vec_len t.rows
