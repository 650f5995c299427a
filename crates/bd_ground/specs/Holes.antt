-- The holes of a window as a list in order of place, in units.
use Rattle.std.specs.Prelude.{ℕ, ◌≡◌, ◌+◌, ◌<◌, ◌≤◌, ◌==◌, ◌⊎◌, Bool, true, List, [], ◌∷◌, if◌then◌else◌}

pub record Hole : Type 0 where
  pub start : ℕ
  pub end : ℕ

-- the holes of these lengths, of which the first begins with unit i: a length of 0 is no hole
abbrev pub holes_in : List ℕ → ℕ → List Hole
holes_in [] i = []
holes_in (n ∷ ns) i = if n == 0 then holes_in ns (i + 1) else record { start = i; end = i + n } ∷ holes_in ns (i + 1)

-- each from `low` on, in order, none empty, and a unit at least behind each before the next or the tail
abbrev pub Spaced : ℕ → ℕ → List Hole → Type 0
Spaced tail low [] = low ≤ tail
Spaced tail low (h ∷ hs) = (low ≤ h.start) × (h.start < h.end) × Spaced tail (h.end + 1) hs

-- some hole has the unit, or the tail
abbrev pub Covered : ℕ → ℕ → List Hole → ℕ → Type 0
Covered size tail [] u = (tail ≤ u) × (u < size)
Covered size tail (h ∷ hs) u = ((h.start ≤ u) × (u < h.end)) ⊎ Covered size tail hs u

-- just the free units are theirs
pub record AreHoles (free : ℕ → Bool) (size tail : ℕ) (holes : List Hole) : Type 0 where
  pub spaced : Spaced tail 0 holes
  pub within : tail ≤ size
  pub free_only : (u : ℕ) → Covered size tail holes u → free u ≡ true
  pub all_free : (u : ℕ) → u < size → free u ≡ true → Covered size tail holes u
