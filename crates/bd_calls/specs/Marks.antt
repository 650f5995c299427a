-- What was told of the todo lists, as far as it is kept: which may have been filled or emptied since.
use Rattle.std.specs.Prelude.{◌≡◌, ◌≤◌, ◌+◌, ℕ, Bool, true, false, not, ◌||◌, List, [], ◌∷◌, if◌then◌else◌, vec_len, vec_capacity}
use Rattle.std.specs.List.{AllByRecursion}
use Rattle.bd_ways.specs.Words.{list_any, Work, TodoList}
use Rattle.bd_space.specs.Todo.{same_list, has_work_in}
use Rattle.bd_todo.specs.{declared.table.WorkTable.{WorkTable}, Stands.{WorksAre}}
use Rattle.bd_calls.specs.{declared.marks.Mark.{Mark}, declared.marks.Marks.{Marks}}

-- one of the two is so, and the other isn't
abbrev pub differs : Bool → Bool → Bool
differs true b = not b
differs false b = b

abbrev pub is_among : List TodoList → TodoList → Bool
is_among lists list = list_any (same_list list) lists

abbrev pub is_marked_in : List Mark → TodoList → Bool
is_marked_in marks list = list_any (λ m. same_list list m.list) marks

-- the list was filled or emptied since it was marked
abbrev pub is_changed : List Work → Mark → Bool
is_changed todo m = differs m.had (has_work_in todo m.list)

abbrev pub changed_lists : List Work → List Mark → List TodoList
changed_lists todo [] = []
changed_lists todo (m ∷ marks) = if is_changed todo m then m.list ∷ changed_lists todo marks else changed_lists todo marks

-- the table stands for work items of which this was told: of a marked list what its mark has kept, of any other what is so
pub record IsRecalled (marks : List Mark) (t : WorkTable) (told : TodoList → Bool) : Type 0 where
  pub todo : List Work
  pub todo_are : WorksAre t todo
  pub had : AllByRecursion (λ m. told m.list ≡ m.had) marks
  pub beside : (list : TodoList) → is_marked_in marks list ≡ false → told list ≡ has_work_in todo list

-- what was told of each list is known still, unless all are marked
abbrev pub RecallsIn : Marks → WorkTable → (TodoList → Bool) → Type 0
RecallsIn m t told = m.all ≡ false → IsRecalled m.marks.items t told

abbrev pub is_marked : Marks → TodoList → Bool
is_marked m list = m.all || is_marked_in m.marks.items list

-- ---- a change of the marks

-- what isn't marked was not marked before, and is none of these
abbrev pub AreMarked : (TodoList → Bool) → Marks → Marks → Type 0
AreMarked these old new = (list : TodoList) → is_marked new list ≡ false → (is_marked old list ≡ false) × (these list ≡ false)

-- what was told is known still
abbrev pub Goes : Marks → Marks → WorkTable → Type 0
Goes old new t = (told : TodoList → Bool) → RecallsIn old t told → RecallsIn new t told

-- ---- how many lists are marked

-- not all lists are marked, and for so many more there is room
abbrev pub HasMarkRoom : ℕ → Marks → Type 0
HasMarkRoom lists m = (m.all ≡ false) × (vec_len m.marks + lists ≤ vec_capacity m.marks)

-- so many lists at most are marked, and all others with them only where there was no room
abbrev pub MarksFew : ℕ → Marks → Marks → Type 0
MarksFew lists old new = (more : ℕ) → HasMarkRoom (lists + more) old → HasMarkRoom more new
