-- The engine's todo lists, as a bridge has them.
use Rattle.std.specs.Prelude.{◌≡◌, ◌⊎◌, Bool, true, List, map}
use Rattle.bd_bridge.specs.declared.engine.{Reached.{Reached}, TodoList.{TodoList}}
use Rattle.bd_bridge.specs.declared.engine.TodoList.TheVariants.{OfSeat, OfProcess}
use Rattle.bd_space.specs.declared.space.TodoList as space
use Rattle.bd_space.specs.declared.space.TodoList.TheVariants as list
use Rattle.bd_space.specs.Space.{Space}
use Rattle.bd_engine.specs.Reached.{AreReached}

abbrev pub converted : space.TodoList → TodoList
converted (list.OfThread seat) = OfSeat seat
converted (list.OfProcess place) = OfProcess place

-- these are the lists that aren't in this space as was told of them, or nobody knows which those are
abbrev pub AreNamed : Reached → (space.TodoList → Bool) → Space → Type 0
AreNamed r told s = (r.any ≡ true) ⊎ ((lists : List space.TodoList) × (r.lists.items ≡ map converted lists) × AreReached lists told s)
