-- Work items: what is still to be read, and by whom.
use Rattle.std.specs.Prelude.{ℕ, ◌==◌, Bool, true, false, not, ◌&&◌, List, [], ◌∷◌, ◌++◌, Option, Some, None, filter, count_by, is_none, if◌then◌else◌}
use Rattle.bd_space.specs.{Words.{list_any, Identity, Thread, Frame, Work, TodoList, OfThread, OfProcess, WorkKind, same, same_origin, Space}, Frames.innermost_in}

-- one work item more: its identity is the step's place, and how many items of that step stand there already
abbrev pub with_work : ℕ → List Work → TodoList → WorkKind → List Work
with_work place todo list kind =
    todo ++ record { id = record { place = place; index = count_by (λ w. w.id.place == place) todo }; list = list; kind = kind } ∷ []

unfoldable pub owe : Space → TodoList → WorkKind → Space
owe s list kind = record s { todo = with_work s.steps s.todo list kind }

-- the caller of a frame, if it lives, has something to read
abbrev pub tell_caller : Space → Frame → WorkKind → Space
tell_caller s f kind = elim f.caller [ None ↦ s | Some t ↦ owe s (OfThread t) kind ]

abbrev pub same_list : TodoList → TodoList → Bool
same_list (OfThread t) (OfThread u) = t == u
same_list (OfProcess p) (OfProcess q) = p == q
same_list _ _ = false

abbrev pub is_on : TodoList → Work → Bool
is_on list w = same_list list w.list

abbrev pub has_work_in : List Work → TodoList → Bool
has_work_in todo list = list_any (is_on list) todo

-- which list a thread reads: its own if anything is on it; else its process's if it is in no call and has entered the loop
abbrev pub reads_in : List Frame → List Work → Thread → Option TodoList
reads_in frames todo t =
    if has_work_in todo (OfThread t.seat) then Some (OfThread t.seat)
    else (if t.looping && is_none (innermost_in frames t.seat) then Some (OfProcess t.process) else None)

abbrev pub work_on : List Work → Option TodoList → List Work
work_on todo None = []
work_on todo (Some list) = filter (is_on list) todo

-- the thread's list to read
unfoldable pub list_to_read : Space → Thread → List Work
list_to_read s t = work_on s.todo (reads_in s.frames s.todo t)

-- a call, a reply or a verdict on its own list keeps a thread from calling
abbrev pub keeps_from_calling : WorkKind → Bool
keeps_from_calling (WorkKind.Call b) = true
keeps_from_calling (WorkKind.Reply b) = true
keeps_from_calling (WorkKind.Verdict r) = true
keeps_from_calling _ = false

unfoldable pub has_unread : Space → ℕ → Bool
has_unread s seat = list_any (λ w. is_on (OfThread seat) w && keeps_from_calling w.kind) s.todo

abbrev pub is_call : ℕ → WorkKind → Bool
is_call b (WorkKind.Call c) = c == b
is_call b _ = false

abbrev pub is_notice : Identity → WorkKind → Bool
is_notice o (WorkKind.Notice p) = same p o
is_notice o _ = false

abbrev pub notice_of : WorkKind → Option Identity
notice_of (WorkKind.Notice o) = Some o
notice_of _ = None

abbrev pub death_of : WorkKind → Option ℕ
death_of (WorkKind.Death n) = Some n
death_of _ = None

-- the buffer that is handed over by reading it
abbrev pub hands_out : WorkKind → Option ℕ
hands_out (WorkKind.Call b) = Some b
hands_out (WorkKind.Reply b) = Some b
hands_out _ = None

-- one item: an item is told by its list and its identity
abbrev pub is_item : Work → Work → Bool
is_item v w = same_origin v.id w.id && is_on w.list v

-- the items that were taken go
abbrev pub without_taken : List Work → List Work → List Work
without_taken taken todo = filter (λ w. not (list_any (λ d. is_item w d) taken)) todo
