-- What each process has under each number.
use Rattle.std.specs.Prelude.{ℕ, ◌≡◌, ◌==◌, ◌≤◌, ◌<◌, true, Option, None, is_some}
use Rattle.std.specs.HashMap.{get_by}
use Rattle.bd_numbered.specs.declared.numbered.Numbered.{Numbered}
use Rattle.bd_numbered.specs.Columns.{values_in, rooms_in, on_slot}

module _ {T : Type 0} where
  abbrev pub slot_at : Numbered T → ℕ → Option ℕ
  slot_at t p = get_by (λ q. p == q) t.slots

  abbrev pub value_at : Numbered T → ℕ → ℕ → Option T
  value_at t p n = on_slot None (λ k. values_in t.rows k n) (slot_at t p)

  -- for so many more values of the process there is memory
  abbrev pub number_room : Numbered T → ℕ → ℕ
  number_room t p = on_slot 0 (rooms_in t.rows) (slot_at t p)

  -- nothing stands under it, and something under each from the first on to it
  pub record IsFreeAt (first : ℕ) (t : Numbered T) (p n : ℕ) : Type 0 where
    pub free : value_at t p n ≡ None
    pub from : first ≤ n
    pub before : (m : ℕ) → first ≤ m → m < n → is_some (value_at t p m) ≡ true
