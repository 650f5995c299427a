-- Whom a step reaches: whose todo list it fills or empties, and whose thread it ends.
use Rattle.std.specs.Prelude.{ℕ, ◌≡◌, Bool, true, not, Some, None, ◌⊎◌}
use Rattle.std.specs.Bool.{beq}
use Rattle.bd_ways.specs.Words.{Thread, TodoList, OfThread, OfProcess, Space}
use Rattle.bd_space.specs.Seats.{thread_in}
use Rattle.bd_space.specs.Todo.{has_work_in}

-- of the two spaces one has something on the list, and the other nothing
abbrev pub is_filled_or_emptied : Space → Space → TodoList → Bool
is_filled_or_emptied old new list = not (beq (has_work_in old.todo list) (has_work_in new.todo list))

-- the seat's own list was filled or emptied, or the list of its thread's process was, or the thread has ended
abbrev pub IsReached : Space → Space → ℕ → Type 0
IsReached old new seat = (is_filled_or_emptied old new (OfThread seat) ≡ true)
    ⊎ (((a : Thread) × (thread_in old.threads seat ≡ Some a) × (is_filled_or_emptied old new (OfProcess a.process) ≡ true)) ⊎ (thread_in new.threads seat ≡ None))
