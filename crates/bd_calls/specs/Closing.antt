-- Calls that are due to close, the oldest first: where an abandoned one closes, the one in which it was made is due in its place.
use Rattle.std.specs.{Prelude.{ℕ, zero, suc, ◌≡◌, List, [], ◌∷◌, Some, None}, List.{cons_option}}
use Rattle.bd_ways.specs.Words.{Space}
use Rattle.bd_space.specs.Settle.{settle_one}
pub use Rattle.bd_frames.specs.Words.{is_place_among}
use Rattle.bd_frames.specs.Words.{abandoned_in}
use Rattle.bd_calls.specs.{declared.table.CallTable.{CallTable}, Stands.{StandsFor}}

-- the first that is abandoned closes, and the rest follows
abbrev pub close_first : (List ℕ → Space → Space) → List ℕ → Space → Space
close_first rest [] s = s
close_first rest (made ∷ due) s =
    elim (abandoned_in s.frames made) [ None ↦ close_first rest due s | Some f ↦ rest (cons_option f.parent due) (settle_one s (Some f)) ]

-- so many close at most
abbrev pub close_due : ℕ → List ℕ → Space → Space
close_due zero due s = s
close_due (suc n) due s = close_first (close_due n) due s

-- the table stands for a space from which closing those that are due, so many at most, comes to the whole
pub record IsClosing (t : CallTable) (place left : ℕ) (due : List ℕ) (whole : Space) : Type 0 where
  pub mid : Space
  pub stands : StandsFor t mid
  pub at : mid.steps ≡ place
  pub goes_on : close_due left due mid ≡ whole
