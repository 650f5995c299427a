-- The rows by slot: whose each is, what it has under a number, its room. Of an empty slot nothing.
use Rattle.std.specs.Prelude.{ℕ, Option, None, Some, option_map}
use Rattle.slab.specs.Slab.{Slab, get}
use Rattle.bd_numbered.specs.declared.row.Row.{Row}
use Rattle.bd_numbered.specs.Row.{value_of, row_room}

module _ {T : Type 0} where
  abbrev pub value_in : Option (Row T) → ℕ → Option T
  value_in None n = None
  value_in (Some r) n = value_of r n

  abbrev pub room_in : Option (Row T) → ℕ
  room_in None = 0
  room_in (Some r) = row_room r

  -- whose the row is
  abbrev pub made_in : Slab (Row T) → ℕ → Option ℕ
  made_in rows k = option_map (λ r. r.made) (get rows k)

  abbrev pub values_in : Slab (Row T) → ℕ → ℕ → Option T
  values_in rows k n = value_in (get rows k) n

  abbrev pub rooms_in : Slab (Row T) → ℕ → ℕ
  rooms_in rows k = room_in (get rows k)

-- one of these at a slot that may not be known
abbrev pub on_slot : {A : Type 0} → A → (ℕ → A) → Option ℕ → A
on_slot d f None = d
on_slot d f (Some k) = f k
