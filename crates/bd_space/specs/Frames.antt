-- Frames: open two-way calls. Parents make a forest.
use Rattle.std.specs.Prelude.{ℕ, ◌==◌, nat_le, Bool, true, false, not, ◌&&◌, ◌||◌, List, [], ◌∷◌, length, reverse, Option, Some, None, find, filter, option_map, option_and_then, if◌then◌else◌}
use Rattle.bd_space.specs.{Words.{list_all, Thread, Frame, Server, Serving, Gone, TodoList, OfThread, OfProcess, is_some_and, Space}, Seats.thread_in}

abbrev pub serves : ℕ → Server → Bool
serves seat (Serving t) = t == seat
serves seat _ = false

abbrev pub is_gone : Server → Bool
is_gone Gone = true
is_gone _ = false

abbrev pub calls : ℕ → Frame → Bool
calls seat f = is_some_and f.caller (λ t. t == seat)

-- the thread is caller or server
abbrev pub takes_part : ℕ → Frame → Bool
takes_part seat f = calls seat f || serves seat f.server

-- the frames on the way from a frame by parents, over frames from the newest on: a parent is older than its child
abbrev pub ancestry : Option ℕ → List Frame → List Frame
ancestry from [] = []
ancestry from (f ∷ fs) = if is_some_and from (λ m. f.made == m) then (f ∷ ancestry f.parent fs) else ancestry from fs

-- how many frames stand on that way
abbrev pub depth_in : List Frame → Frame → ℕ
depth_in frames f = length (ancestry (Some f.made) (reverse frames))

-- the thread takes part in no deeper frame
abbrev pub is_deepest_in : List Frame → ℕ → Frame → Bool
is_deepest_in frames seat f = takes_part seat f && list_all (λ g. not (takes_part seat g) || nat_le (depth_in frames g) (depth_in frames f)) frames

-- a thread's innermost frame: the deepest in which it is caller or server
abbrev pub innermost_in : List Frame → ℕ → Option Frame
innermost_in frames seat = find (is_deepest_in frames seat) frames

unfoldable pub innermost : Space → ℕ → Option Frame
innermost s seat = innermost_in s.frames seat

-- the innermost frame, if the thread serves it
unfoldable pub served_innermost : Space → ℕ → Option Frame
served_innermost s seat = option_and_then (λ f. if serves seat f.server then Some f else None) (innermost_in s.frames seat)

abbrev pub made_of : Frame → ℕ
made_of f = f.made

-- the frame's caller is a live thread of the process
abbrev pub waits_in : List Thread → ℕ → Frame → Bool
waits_in threads p f = is_some_and f.caller (λ c. is_some_and (thread_in threads c) (λ t. t.process == p))

abbrev pub list_of_caller : ℕ → Option Frame → TodoList
list_of_caller p None = OfProcess p
list_of_caller p (Some f) = elim f.caller [ None ↦ OfProcess p | Some c ↦ OfThread c ]

-- where a two-way call of this thread to this process is read: by the first thread of the process that waits on the way
-- from the innermost frame by parents, else by the process
unfoldable pub goes_to : Space → ℕ → ℕ → TodoList
goes_to s seat p =
    list_of_caller p (find (waits_in s.threads p) (ancestry (option_map made_of (innermost_in s.frames seat)) (reverse s.frames)))

abbrev pub is_child_of : Frame → Frame → Bool
is_child_of f g = is_some_and g.parent (λ m. m == f.made)

abbrev pub is_frame : ℕ → Frame → Bool
is_frame made f = f.made == made

-- the frame closes
unfoldable pub closed : Space → ℕ → Space
closed s made = record s { frames = filter (λ g. not (is_frame made g)) s.frames }
