-- Frames in the order of their places, and where among the rows those are that are looked for.
use Rattle.std.specs.Prelude.{ℕ, suc, ◌≡◌, ◌≤◌, ◌<◌, ◌==◌, true, false, List, [], ◌∷◌, Option, Some, None, AllPairs, length, map, if◌then◌else◌}
use Rattle.std.specs.List.{All, AllWithin, HoldsAt}
use Rattle.bd_ways.specs.Words.{Frame, is_some_and}
use Rattle.bd_space.specs.Frames.{takes_part}
use Rattle.bd_frames.specs.declared.frame.Row.{Row}

abbrev pub frames_of : List Row → List Frame
frames_of = map (λ r. r.frame)

-- each was made after the one before, from one place on
abbrev pub IsRising : ℕ → List Frame → Type 0
IsRising from [] = Unit {0}
IsRising from (f ∷ fs) = (from ≤ f.made) × IsRising (suc f.made) fs

-- the place is after the last one's, or is this place or a later one where there is none
abbrev pub IsAfter : ℕ → List Frame → ℕ → Type 0
IsAfter from [] made = from ≤ made
IsAfter from (f ∷ fs) made = IsAfter (suc f.made) fs made

abbrev pub place : Row → ℕ
place r = r.frame.made

abbrev pub AreRising : List Row → Type 0
AreRising = AllPairs (λ r s. place r < place s)

-- the frame made there stands at this index, or there is none
abbrev pub IsAt : ℕ → List Row → Option ℕ → Type 0
IsAt made rows None = All (λ r. (place r == made) ≡ false) rows
IsAt made rows (Some i) = HoldsAt (λ r. place r ≡ made) rows i

-- the newest frame in which the thread takes part stands at this index, or there is none
abbrev pub IsNewest : ℕ → List Row → Option ℕ → Type 0
IsNewest seat rows None = All (λ r. takes_part seat r.frame ≡ false) rows
IsNewest seat rows (Some i) =
    HoldsAt (λ r. takes_part seat r.frame ≡ true) rows i × AllWithin (λ r. takes_part seat r.frame ≡ false) rows (suc i) (length rows)

-- the row, changed if its frame was made there
abbrev pub turned : Option ℕ → (Row → Row) → Row → Row
turned made g r = if is_some_and made (λ m. place r == m) then g r else r
