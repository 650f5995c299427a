-- Which todo lists were filled or emptied since that was last told.
use Rattle.std.specs.Prelude.{ℕ, ◌≡◌, Bool, true, List, Some, None, ◌⊎◌}
use Rattle.bd_ways.specs.Words.{Thread, TodoList, OfThread, OfProcess, Step, StepAnswer, Space}
use Rattle.bd_space.specs.Seats.{thread_in}
use Rattle.bd_space.specs.Todo.{has_work_in}
use Rattle.bd_space.specs.Histories.{History, space_after, extended, is_ready}
use Rattle.bd_calls.specs.Told as calls
use Rattle.bd_engine.specs.declared.live.Live.{Live}
pub use Rattle.bd_calls.specs.Marks.{is_among, differs}

-- whether anything is on the list
abbrev pub has_work : Space → TodoList → Bool
has_work s list = has_work_in s.todo list

-- If this was told of each list, the engine still knows which lists were filled or emptied since, or that any may have been.
abbrev pub Recalls : Live → (TodoList → Bool) → Type 0
Recalls l told = calls.Recalls l.tables.value.calls told

-- Whatever was told of the lists, the new engine knows as much of it as the old one.
abbrev pub KeepsTold : Live → Live → Type 0
KeepsTold old new = (told : TodoList → Bool) → Recalls old told → Recalls new told

-- no list was filled or emptied but those that are known
abbrev pub knows_all : Live → Bool
knows_all l = calls.knows_all l.tables.value.calls

-- they are known, and will be where so many more lists are filled or emptied
abbrev pub HasRoomToTell : Live → ℕ → Type 0
HasRoomToTell l lists = calls.HasRoomToTell l.tables.value.calls lists

-- these are exactly the lists of which it was told otherwise than it is in this space
abbrev pub AreReached : List TodoList → (TodoList → Bool) → Space → Type 0
AreReached reached told s = (list : TodoList) → is_among reached list ≡ differs (told list) (has_work s list)

-- ---- whom a step made ready

-- the seat's own list is among these, or the list of its thread's process is, or the thread has ended
abbrev pub IsNamed : List TodoList → Space → Space → ℕ → Type 0
IsNamed reached old new seat = (is_among reached (OfThread seat) ≡ true)
    ⊎ (((a : Thread) × (thread_in old.threads seat ≡ Some a) × (is_among reached (OfProcess a.process) ≡ true)) ⊎ (thread_in new.threads seat ≡ None))

-- where these are the lists that a step filled or emptied, each seat but its own is as ready as before, or is named by them
abbrev pub TheseNameAll : Type 0
TheseNameAll = (h : History) (seat : ℕ) (x : Step) (answer : StepAnswer) (reached : List TodoList) (other : ℕ) → (other ≡ seat → ⊥)
    → (let old = space_after h in let new = space_after (extended h seat x answer) in
    AreReached reached (has_work old) new → (is_ready new other ≡ is_ready old other) ⊎ IsNamed reached old new other)
