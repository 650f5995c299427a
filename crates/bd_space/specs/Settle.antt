-- Abandoned calls: what follows when a server has gone.
use Rattle.std.specs.Prelude.{ℕ, zero, suc, Bool, not, ◌&&◌, List, length, Option, Some, None, find}
use Rattle.bd_space.specs.{Words.{list_any, Return, Frame, WorkKind, Space}, Frames.{is_gone, is_child_of, closed}, Todo.tell_caller}

-- its server has gone, and it has no open child
abbrev pub is_abandoned : List Frame → Frame → Bool
is_abandoned frames f = is_gone f.server && not (list_any (is_child_of f) frames)

abbrev pub settle_one : Space → Option Frame → Space
settle_one s None = s
settle_one s (Some f) = tell_caller (closed s f.made) f (WorkKind.Verdict Return.DeadReply)

-- the oldest abandoned call closes, and a caller that lives is told
abbrev pub settle_step : Space → Space
settle_step s = settle_one s (find (is_abandoned s.frames) s.frames)

abbrev pub settle_times : ℕ → Space → Space
settle_times zero s = s
settle_times (suc n) s = settle_step (settle_times n s)

-- and so on, while there is one: no more often than there are frames
unfoldable pub settle : Space → Space
settle s = settle_times (length s.frames) s
