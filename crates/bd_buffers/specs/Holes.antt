-- The free space of a window: holes between its buffers, in order of place, and the tail past the last buffer.
use Rattle.std.specs.Prelude.{ℕ, ◌≡◌, ◌+◌, ◌*◌, ◌%◌, ◌<◌, ◌≤◌, ◌⊎◌, List, [], ◌∷◌, All, map}
use Rattle.bd_ways.specs.Words.{Buffer}
use Rattle.bd_ground.specs.declared.spans.Spans.{Spans}
use Rattle.bd_ground.specs.Holes as units

pub record Hole : Type 0 where
  pub start : ℕ
  pub end : ℕ

-- a byte is in a hole, or in the tail
abbrev pub Covered : ℕ → ℕ → List Hole → ℕ → Type 0
Covered size tail [] q = (tail ≤ q) × (q < size)
Covered size tail (h ∷ hs) q = ((h.start ≤ q) × (q < h.end)) ⊎ Covered size tail hs q

-- no buffer spans a byte of the window
abbrev pub IsFreeByte : ℕ → List Buffer → ℕ → Type 0
IsFreeByte size buffers q = (q < size) × All (λ b. (q < b.start) ⊎ (b.start + b.size ≤ q)) buffers

-- holes in order of place, none empty, each behind `low`, with something between each two and before the tail; their ends, and the
-- tail, are multiples of 8
abbrev pub Spaced : ℕ → ℕ → List Hole → Type 0
Spaced tail low [] = (low ≤ tail) × (tail % 8 ≡ 0)
Spaced tail low (h ∷ hs) = (low ≤ h.start) × (h.start < h.end) × (h.start % 8 ≡ 0) × (h.end % 8 ≡ 0) × Spaced tail (h.end + 1) hs

-- the holes and the tail are what no buffer spans
pub record IsHoles (size : ℕ) (buffers : List Buffer) (tail : ℕ) (holes : List Hole) : Type 0 where
  pub spaced : Spaced tail 0 holes
  pub within : tail ≤ size
  pub free : (q : ℕ) → Covered size tail holes q → IsFreeByte size buffers q
  pub covered : (q : ℕ) → IsFreeByte size buffers q → Covered size tail holes q

-- a hole of units, in bytes
abbrev pub in_bytes : units.Hole → Hole
in_bytes h = record { start = 8 * h.start; end = 8 * h.end }

-- the holes that are noted
abbrev pub holes_of : Spans → List Hole
holes_of t = map in_bytes (units.holes_in t.holes 0)
