-- Another value in a slot.
use Rattle.std.specs.Prelude.{ℕ, ◌==◌, List, [], ◌∷◌, if◌then◌else◌}
use Rattle.bd_chains.specs.{declared.links.Held.{Held}, Rows.{Row}}

module _ {T : Type 0} where
  -- the list stays, and whether it counts
  abbrev pub set_held : T → ℕ × Held T → ℕ × Held T
  set_held v p = (p.0, record p.1 { value = v })

  abbrev pub set_row : T → Row T → Row T
  set_row v r = record r { held = record r.held { value = v } }

  abbrev pub with_value : ℕ → T → List (Row T) → List (Row T)
  with_value x v [] = []
  with_value x v (r ∷ rs) = (if r.key == x then set_row v r else r) ∷ with_value x v rs
