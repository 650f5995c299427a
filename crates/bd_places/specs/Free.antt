-- The free places of a vector.
use Rattle.std.specs.Prelude.{ℕ, zero, suc, ◌==◌, Bool, List, [], ◌∷◌, Option, is_some, if◌then◌else◌}
use Rattle.std.specs.declared.cmp.Reverse.{Reverse}

abbrev pub is_place : ℕ → Reverse ℕ → Bool
is_place i x = x.0 == i

-- as a number to compare with a count: 1 of a place in the vector that is empty, else 0
abbrev pub free_at : {T : Type 0} → List (Option T) → ℕ → ℕ
free_at [] i = 0
free_at (x ∷ xs) zero = if is_some x then 0 else 1
free_at (x ∷ xs) (suc i) = free_at xs i
