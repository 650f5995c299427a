-- References that lie in buffers, each on its buffer's list and on that of the window in which the buffer lies.
use Rattle.std.specs.Prelude.{ℕ, ◌==◌, ◌≡◌, Bool, List, [], ◌∷◌, Option, Some, None, unwrap_or, option_map}
use Rattle.bd_ways.specs.Words.{Reference, Holder, Carried, Target}
use Rattle.bd_space.specs.References.{buffer_of_holder}
use Rattle.bd_chains.specs.{declared.links.Held.{Held}, Rows.{Row, row_at}}
use Rattle.bd_records.specs.declared.lying.Lying.{Lying}

-- the process in whose window the buffer lies
abbrev pub window_of_holder : Holder → Option ℕ
window_of_holder (Carried b q) = Some q
window_of_holder (Target b q) = Some q
window_of_holder _ = None

abbrev pub buffer_key : Reference → ℕ
buffer_key r = unwrap_or (buffer_of_holder r.holder) 0

abbrev pub window_key : Reference → ℕ
window_key r = unwrap_or (window_of_holder r.holder) 0

abbrev pub same_key : ℕ → ℕ → Bool
same_key b c = b == c

abbrev pub references : List (Row Lying) → List Reference
references [] = []
references (r ∷ rs) = r.held.value.reference ∷ references rs

-- what lies in a slot
abbrev pub lying_at : ℕ → List (Row Lying) → Option Lying
lying_at k rs = option_map (λ (p : ℕ × Held Lying). p.1.value) (row_at k rs)

-- the same references in the same order, each with the slot of the other
abbrev pub Paired : List (Row Lying) → List (Row Lying) → Type 0
Paired [] [] = Unit {0}
Paired [] (b ∷ bs) = ⊥
Paired (a ∷ xs) [] = ⊥
Paired (a ∷ xs) (b ∷ bs) =
    ((a.held.value.at ≡ b.key) × (b.held.value.at ≡ a.key) × (b.held.value.reference ≡ a.held.value.reference)) × Paired xs bs
