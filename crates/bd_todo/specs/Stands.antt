-- What a table of work items stands for: the work items of the space, in its order.
use Rattle.std.specs.Prelude.{ℕ, Bool, List, min, is_some}
use Rattle.bd_ways.specs.Words.{Work, TodoList}
use Rattle.bd_keys.specs.Tables as tables
use Rattle.bd_chains.specs.Rows.{Row}
use Rattle.bd_todo.specs.{Rows.{works}, Heads.{head_at}, declared.table.WorkTable.{WorkTable}, Registered.{Registered, register_room}}
use Rattle.bd_todo.specs.QueuesStand as queues

pub record WorksAre (t : WorkTable) (l : List Work) : Type 0 where
  pub queues_stand : queues.Stands t.queues l
  pub registered : Registered t.register l

-- the same of these rows
pub record RowsAre (t : WorkTable) (rs : List (Row Work)) : Type 0 where
  pub shows : queues.Shows t.queues rs
  pub registered : Registered t.register (works rs)

-- how many items more it takes without memory, as a number of the machine
unfoldable pub work_room : WorkTable → ℕ
work_room t = min (min (queues.queue_room t.queues) (register_room t.register)) 18446744073709551615

-- the list has a number, whether or not anything is on it
abbrev pub keeps_list : WorkTable → TodoList → Bool
keeps_list t list = is_some (head_at t.queues.numbers list)

-- of every list that the table stands for x is what f says
abbrev pub Tells : {A : Type 0} → WorkTable → A → (List Work → A) → Type 0
Tells t = tables.Tells (WorksAre t)

-- every list that the table stood for was changed by f
abbrev pub Makes : WorkTable → WorkTable → (List Work → List Work) → Type 0
Makes t u = tables.Makes (WorksAre t) (WorksAre u)
