-- Words on frames in the order in which they came in.
use Rattle.std.specs.Prelude.{ℕ, ◌==◌, ◌&&◌, Bool, true, false, List, Option, find, reverse}
use Rattle.bd_ways.specs.Words.{list_any, Frame, Server, Pending, Serving, Gone}
use Rattle.bd_space.specs.{Frames.{takes_part, is_frame}, Settle.{is_abandoned}, ThreadExits.{gone_caller, gone_server}}
use Rattle.bd_frames.specs.declared.frame.Row.{Row}

-- the newest frame in which the thread takes part
abbrev pub newest_in : List Frame → ℕ → Option Frame
newest_in frames seat = find (takes_part seat) (reverse frames)

abbrev pub is_place_among : List ℕ → ℕ → Bool
is_place_among chosen made = list_any (λ m. m == made) chosen

-- the frame made here, if it is abandoned
abbrev pub abandoned_in : List Frame → ℕ → Option Frame
abandoned_in frames made = find (λ f. is_frame made f && is_abandoned frames f) frames

-- the call is unread
abbrev pub is_pending : Server → Bool
is_pending Pending = true
is_pending (Serving t) = false
is_pending Gone = false

-- who would have served it has gone
abbrev pub lost : Server → Server
lost Pending = Gone
lost (Serving t) = Serving t
lost Gone = Gone

abbrev pub lost_frame : Frame → Frame
lost_frame f = record f { server = lost f.server }

-- the thread is gone as caller and as server
abbrev pub left_frame : ℕ → Frame → Frame
left_frame seat f = record f { caller = gone_caller seat f.caller; server = gone_server seat f.server }

-- and so its row
abbrev pub left_row : ℕ → Row → Row
left_row seat r = record r { frame = left_frame seat r.frame }
