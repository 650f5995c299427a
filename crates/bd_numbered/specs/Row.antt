-- One process's values.
use Rattle.std.specs.Prelude.{ℕ, ◌≡◌, ◌-◌, ◌==◌, ◌≤◌, ◌<◌, true, Option, None, is_some, if◌then◌else◌}
use Rattle.bd_places.specs.Places.{at, place_room}
use Rattle.bd_numbered.specs.declared.row.Row.{Row}

module _ {T : Type 0} where
  abbrev pub value_of : Row T → ℕ → Option T
  value_of r n = if n == 0 then r.zero else at r.places (n - 1)

  abbrev pub row_room : Row T → ℕ
  row_room r = place_room r.places

  -- nothing stands under it, and something under each from the first on to it
  pub record IsFreeFrom (first : ℕ) (r : Row T) (n : ℕ) : Type 0 where
    pub free : value_of r n ≡ None
    pub from : first ≤ n
    pub before : (m : ℕ) → first ≤ m → m < n → is_some (value_of r m) ≡ true
