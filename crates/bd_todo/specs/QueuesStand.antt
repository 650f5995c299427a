-- What the queues stand for: the work items of the space, in its order.
use Rattle.std.specs.{Prelude.{◌≡◌, ℕ, Bool, true, List, Option}, HashMap.{spare}}
use Rattle.bd_ways.specs.Words.{Work, TodoList, without_first, is_some_and}
use Rattle.bd_space.specs.Todo.{same_list, is_on, keeps_from_calling}
use Rattle.bd_chains.specs.{Rows.{Row, drop_key}, Columns.{value_at}, declared.lists.Lists.{Lists}}
use Rattle.bd_chains.specs.Lists as lists
use Rattle.bd_todo.specs.{Heads.{head_at}, Rows.{works}, declared.heads.Heads.{Heads}}

abbrev pub Queues : Type 0
Queues = Lists Heads Work

abbrev pub list_of : Work → TodoList
list_of w = w.list

abbrev pub keeps : Work → Bool
keeps w = keeps_from_calling w.kind

-- the rows are those of the queues, each on the list that its item names, which counts it if it keeps from calling
abbrev pub Shows : Queues → List (Row Work) → Type 0
Shows t = lists.Shows list_of keeps same_list (head_at t.numbers) t.chains

pub record Stands (t : Queues) (todo : List Work) : Type 0 where
  pub rows : List (Row Work)
  pub shows : Shows t rows
  pub works_are : works rows ≡ todo

-- the work item in a slot
abbrev pub work_at : Queues → ℕ → Option Work
work_at t x = value_at t.chains x

-- so many work items more take no memory, each maybe the first of its list
abbrev pub queue_room : Queues → ℕ
queue_room t = lists.lists_room t.chains (spare t.numbers.others.all)

-- in the slot is the first work item on the list
pub record IsFront (t : Queues) (rs : List (Row Work)) (list : TodoList) (x : ℕ) : Type 0 where
  pub on_it : is_some_and (work_at t x) (is_on list) ≡ true
  pub without_it : works (drop_key x rs) ≡ without_first (is_on list) (works rs)
