-- The step that ends a thread.
use Rattle.std.specs.Prelude.{ℕ, ◌==◌, Bool, not, ◌&&◌, List, map, Option, Some, None, filter, if◌then◌else◌}
use Rattle.bd_space.specs.{Words.{list_any, StepAnswer, Reference, Frame, Work, Server, Pending, Serving, Gone, TodoList, OfThread, is_some_and, Space, Actor}, References.buffer_of_holder, Todo.{is_on, is_call, hands_out}, Notices.follow, Settle.settle, Outcomes.Outcome}

-- the call of this frame stands unread on the list
abbrev pub is_unread_on : List Work → TodoList → ℕ → Bool
is_unread_on todo list f = list_any (λ w. is_on list w && is_call f w.kind) todo

-- its server is gone with the list
abbrev pub unread_server : List Work → TodoList → ℕ → Server → Server
unread_server todo list f Pending = if is_unread_on todo list f then Gone else Pending
unread_server todo list f server = server

abbrev pub unread_frame : List Work → TodoList → Frame → Frame
unread_frame todo list f = record f { server = unread_server todo list f.made f.server }

-- the thread is gone as caller and as server
abbrev pub gone_caller : ℕ → Option ℕ → Option ℕ
gone_caller seat None = None
gone_caller seat (Some c) = if c == seat then None else Some c

abbrev pub gone_server : ℕ → Server → Server
gone_server seat (Serving t) = if t == seat then Gone else Serving t
gone_server seat server = server

abbrev pub frame_without : List Work → ℕ → Frame → Frame
frame_without todo seat f =
    record f { caller = gone_caller seat f.caller; server = gone_server seat (unread_server todo (OfThread seat) f.made f.server) }

-- an unread call or reply on the list would have handed this buffer over
abbrev pub is_lost_with : List Work → TodoList → ℕ → Bool
is_lost_with todo list b = list_any (λ w. is_on list w && is_some_and (hands_out w.kind) (λ m. m == b)) todo

abbrev pub is_lost_reference : List Work → TodoList → Reference → Bool
is_lost_reference todo list r = is_some_and (buffer_of_holder r.holder) (is_lost_with todo list)

-- the thread leaves its frames; its list is dropped, and so is each buffer that reading the list would have handed out. What
-- follows then makes the process's own list tell what an owner has yet to hear
unfoldable pub thread_goes : Space → ℕ → Space
thread_goes s seat = record s {
  threads = filter (λ t. not (t.seat == seat)) s.threads;
  frames = map (frame_without s.todo seat) s.frames;
  todo = filter (λ w. not (is_on (OfThread seat) w)) s.todo;
  buffers = filter (λ b. not (is_lost_with s.todo (OfThread seat) b.made)) s.buffers;
  references = filter (λ r. not (is_lost_reference s.todo (OfThread seat) r)) s.references;
}

unfoldable pub exit_thread_step : Space → Actor → Outcome
exit_thread_step s a = record { answer = StepAnswer.Exited; space = settle (follow (thread_goes s a.thread.seat)) }
