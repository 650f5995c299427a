-- What work items are looked up by, and how many are looked up so.
use Rattle.std.specs.Prelude.{ℕ, ◌+◌, ◌^◌, Bool, Option, Some, None}
use Rattle.bd_ways.specs.Words.{is_some_and, WorkKind}
use Rattle.bd_space.specs.declared.space.WorkKind.TheVariants as work
use Rattle.bd_keys.specs.Numbers.{pair}
use Rattle.bd_todo.specs.{declared.spots.Sought.{Sought}, declared.spots.Sought.TheVariants.{Notice, Call, Death}}
use Rattle.bd_todo.specs.contracts.spots.SoughtPartialEq.TheImpl as sought

abbrev pub same_sought : Sought → Sought → Bool
same_sought = (sought.ghosts).eq

-- a number of 66 bits, another for each key
abbrev pub spread : Sought → ℕ
spread (Notice p i) = pair p i
spread (Call b) = b + 2 ^ 104
spread (Death n) = n + 2 ^ 105

-- of a notice its object as a number, of all else 0
abbrev pub noticed : Sought → ℕ
noticed (Notice p i) = pair p i
noticed _ = 0

abbrev pub sought_of : WorkKind → Option Sought
sought_of (work.Notice o) = Some (Notice o.place o.index)
sought_of (work.Call b) = Some (Call b)
sought_of (work.Death n) = Some (Death n)
sought_of _ = None

-- what is looked up by the one key is looked up by the other
abbrev pub is_key : Sought → Option Sought → Bool
is_key k o = is_some_and o (λ s. same_sought s k)

-- the work item is looked up by this key, whatever its list
abbrev pub is_sought : Sought → WorkKind → Bool
is_sought k kind = is_key k (sought_of kind)
