-- How many work items are looked up so, wherever they stand.
use Rattle.std.specs.Prelude.{ℕ, Option, Some, None, if◌then◌else◌}
use Rattle.bd_todo.specs.{Spots.{same_sought}, SpotCounts.{count_at}}
use Rattle.bd_todo.specs.{declared.spots.Sought.{Sought}, declared.finder.Lone.{Lone}, declared.finder.Finder.{Finder}}

-- the count of the one that stands apart, if it is looked up so, else this
abbrev pub lone_or : Option Lone → Sought → ℕ → ℕ
lone_or None k n = n
lone_or (Some l) k n = if same_sought l.key k then l.spot.count else n

abbrev pub found_at : Finder → Sought → ℕ
found_at t k = lone_or t.lone k (count_at t.others k)
