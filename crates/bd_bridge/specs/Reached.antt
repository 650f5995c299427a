-- Whom a step may have made ready, or have taken something from.
use Rattle.std.specs.Prelude.{ℕ, ◌==◌, Bool, ◌||◌}
use Rattle.std.specs.List.{list_any}
use Rattle.bd_bridge.specs.declared.engine.{Reached.{Reached}, TodoList.{TodoList}}
use Rattle.bd_bridge.specs.declared.engine.TodoList.TheVariants.{OfSeat, OfProcess}

-- a thread with seat t, of process p, reads this list
abbrev pub is_read_by : ℕ → ℕ → TodoList → Bool
is_read_by t p (OfSeat seat) = seat == t
is_read_by t p (OfProcess process) = process == p

-- one of the lists is read by it, or nobody knows which they are
abbrev pub names : Reached → ℕ → ℕ → Bool
names r t p = r.any || list_any (is_read_by t p) r.lists.items
