-- How many work items are looked up so.
use Rattle.std.specs.{Prelude.{ℕ, option_map, unwrap_or}, HashMap.{get_by}}
use Rattle.bd_todo.specs.{Spots.{same_sought}, declared.spots.Sought.{Sought}, declared.spots.Spots.{Spots}}

abbrev pub count_at : Spots → Sought → ℕ
count_at t k = unwrap_or (option_map (λ s. s.count) (get_by (same_sought k) t.spots)) 0
