-- Rows that hold work items, and what a walk over all slots has come to.
use Rattle.std.specs.Prelude.{ℕ, ◌+◌, nat_lt, Bool, ◌&&◌, List, [], ◌∷◌, Option, option_map, if◌then◌else◌}
use Rattle.bd_ways.specs.Words.{Work}
use Rattle.bd_chains.specs.{declared.links.Held.{Held}, Rows.{Row, values, row_at}}

abbrev pub works : List (Row Work) → List Work
works = values

-- what the row of a slot holds
abbrev pub work_in : ℕ → List (Row Work) → Option Work
work_in x rs = option_map (λ (p : ℕ × Held Work). p.1.value) (row_at x rs)

-- how many of those pass whose slots a walk has come past
abbrev pub seen_by : (Work → Bool) → ℕ → List (Row Work) → ℕ
seen_by p i [] = 0
seen_by p i (r ∷ rs) = if nat_lt r.key i && p r.held.value then seen_by p i rs + 1 else seen_by p i rs
