-- What is kept of the seats from step to step.
use Rattle.std.specs.Prelude.{ℕ, ◌≡◌, ◌==◌, Bool, List, Option, None, if◌then◌else◌, fold, get_or, IfSome}
use Rattle.bd_ways.specs.Words.{Thread, Work, TodoList, OfThread, OfProcess, is_some_and}
use Rattle.bd_space.specs.{Seats.{thread_in}, Todo.{same_list, has_work_in}}
use Rattle.bd_calls.specs.{declared.seen.Seen.{Seen}, declared.ready.ReadySeats.{ReadySeats}}

-- what is kept of a seat, if anything is
abbrev pub seen_at : ReadySeats → ℕ → Option Seen
seen_at r seat = get_or r.seats.items seat None

-- what is kept of a seat, once something is on this process's list or nothing is
abbrev pub with_shared : ℕ → Bool → Seen → Seen
with_shared process has x = if is_some_and x.thread (λ t. t.process == process) then record x { shared = has } else x

-- and on this list
abbrev pub noted : TodoList → Bool → ℕ → Seen → Seen
noted (OfThread t) has seat x = if t == seat then record x { own = has } else x
noted (OfProcess p) has seat x = with_shared p has x

-- what is kept of the seat is so, by what is told of each list: whether anything is on it
pub record IsSeen (threads : List Thread) (told : TodoList → Bool) (seat : ℕ) (x : Seen) : Type 0 where
  pub thread : x.thread ≡ thread_in threads seat
  pub own : x.own ≡ told (OfThread seat)
  pub shared : x.shared ≡ is_some_and x.thread (λ t. told (OfProcess t.process))

abbrev pub AreSeen : ReadySeats → List Thread → (TodoList → Bool) → Type 0
AreSeen r threads told = (seat : ℕ) → IfSome (seen_at r seat) (IsSeen threads told seat)

-- what is told of each list once this is told of one
abbrev pub told_then : TodoList → Bool → (TodoList → Bool) → TodoList → Bool
told_then list has told l = if same_list l list then has else told l

-- what is told of each once it is told of the lists of those that were taken, one after the other, what is on them now
abbrev pub told_after : List Work → List Work → (TodoList → Bool) → TodoList → Bool
told_after todo taken told = fold (λ said d. told_then d.list (has_work_in todo d.list) said) told taken
