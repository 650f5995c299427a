-- What was told of the todo lists of a call table: whether anything is on each.
use Rattle.std.specs.Prelude.{◌+◌, ℕ, Bool, not, length, vec_capacity}
use Rattle.bd_ways.specs.Words.{TodoList}
use Rattle.bd_calls.specs.{declared.table.CallTable.{CallTable}, Marks.{RecallsIn, HasMarkRoom}}

-- if this was told of each list, then which lists were filled or emptied since is known still, or that any may have been
unfoldable pub Recalls : CallTable → (TodoList → Bool) → Type 0
Recalls t told = RecallsIn t.marks t.todo told

-- whatever was told: it is known still
abbrev pub KeepsTold : CallTable → CallTable → Type 0
KeepsTold old new = (told : TodoList → Bool) → Recalls old told → Recalls new told

-- no list was filled or emptied but those that are known
abbrev pub knows_all : CallTable → Bool
knows_all t = not t.marks.all

-- ---- when not all are known any more

-- so many lists in all have room
unfoldable pub list_room : CallTable → ℕ
list_room t = vec_capacity t.marks.marks

-- so many lists were marked as what may have been filled or emptied
unfoldable pub marked_count : CallTable → ℕ
marked_count t = length t.marks.marks.items

-- all lists are known that were filled or emptied, and will be where so many more are
unfoldable pub HasRoomToTell : CallTable → ℕ → Type 0
HasRoomToTell t lists = HasMarkRoom lists t.marks

-- A change fills or empties so many lists at most. That all are known then ends only for want of room.
abbrev pub ReachesFew : ℕ → CallTable → CallTable → Type 0
ReachesFew lists old new = (more : ℕ) → HasRoomToTell old (lists + more) → HasRoomToTell new more
