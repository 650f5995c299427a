-- Which units of a window are free, as they are noted.
use Rattle.std.specs.Prelude.{ℕ, ◌≡◌, ◌+◌, ◌-◌, ◌<◌, ◌≤◌, ◌&&◌, ◌||◌, ◌⊎◌, not, nat_le, nat_lt, Bool, true, false, length, slice_index}
use Rattle.bd_ground.specs.declared.spans.Spans.{Spans}

-- the length of the hole that begins with a unit: 0 where none does
abbrev pub hole_at : Spans → ℕ → ℕ
hole_at t i = slice_index t.holes i

-- a hole as it is noted: before the tail, its beginning noted at its last unit, all of it free, and neither unit beside it
pub record IsHole (free : ℕ → Bool) (t : Spans) (i : ℕ) : Type 0 where
  pub inside : i + hole_at t i < t.tail
  pub named : slice_index t.begins.items (i + hole_at t i - 1) ≡ i
  pub all_free : (u : ℕ) → i ≤ u → u < i + hole_at t i → free u ≡ true
  pub ends : free (i + hole_at t i) ≡ false
  pub starts : 0 < i → free (i - 1) ≡ false

-- some hole has this unit
pub record IsCovered (t : Spans) (u : ℕ) : Type 0 where
  pub first : ℕ
  pub from : first ≤ u
  pub to : u < first + hole_at t first

-- the units that are free are those of the holes and of the tail
pub record Tiles (free : ℕ → Bool) (t : Spans) : Type 0 where
  pub within : t.tail ≤ t.size
  pub small : t.size ≤ 524288
  pub long : t.tail ≤ length t.holes
  pub named : t.tail ≤ length t.begins.items
  pub behind : (u : ℕ) → t.tail ≤ u → free u ≡ true
  pub last : 0 < t.tail → free (t.tail - 1) ≡ false
  pub holes : (i : ℕ) → 0 < hole_at t i → IsHole free t i
  pub covered : (u : ℕ) → u < t.tail → free u ≡ true → IsCovered t u

-- a window of this size has n free units from p on
pub record IsRun (free : ℕ → Bool) (size n p : ℕ) : Type 0 where
  pub inside : p + n ≤ size
  pub all_free : (u : ℕ) → p ≤ u → u < p + n → free u ≡ true

pub record IsLeastRun (free : ℕ → Bool) (size n p : ℕ) : Type 0 where
  pub run : IsRun free size n p
  pub least : (q : ℕ) → IsRun free size n q → p ≤ q

-- a hole of n units or more begins at p, or the tail does and the window has them
abbrev pub Begins : Spans → ℕ → ℕ → Type 0
Begins t n p = ((p ≡ t.tail) × (p + n ≤ t.size)) ⊎ ((p < t.tail) × (n ≤ hole_at t p))

-- whether u is among the n units from p on
abbrev pub is_in : ℕ → ℕ → ℕ → Bool
is_in p n u = nat_le p u && nat_lt u (p + n)

abbrev pub without : ℕ → ℕ → (ℕ → Bool) → ℕ → Bool
without p n free u = free u && not (is_in p n u)

abbrev pub with_span : ℕ → ℕ → (ℕ → Bool) → ℕ → Bool
with_span p n free u = free u || is_in p n u

-- all units before this one can be noted
pub record HasRoom (t : Spans) (end : ℕ) : Type 0 where
  pub holes : end ≤ length t.holes
  pub begins : end ≤ length t.begins.items
