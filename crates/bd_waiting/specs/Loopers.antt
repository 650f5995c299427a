-- When a process is asked for another thread.
use Rattle.std.specs.Prelude.{ℕ, Bool, not, nat_lt, ◌+◌, ◌==◌, ◌&&◌, if◌then◌else◌}
use Rattle.bd_waiting.specs.declared.loopers.{Loopers.{Loopers}, Front.{Front}}
use Rattle.bd_waiting.specs.declared.loopers.Front.TheVariants as front

-- numbers of 32 bits
abbrev pub more : ℕ → ℕ
more n = if n == 0xffffffff then n else n + 1

-- a looper's read, where nobody else of the process waits, none is still to come, and fewer have come than may
abbrev pub asks_for : Bool → Bool → Loopers → Bool
asks_for looper waits l = looper && not waits && (l.requested == 0) && nat_lt l.started l.max

abbrev pub front_of : ℕ → Bool → Bool → Loopers → Front
front_of room looper waits l =
    if nat_lt room 4 then front.Nothing
    else if asks_for looper waits l then front.SpawnLooper
    else front.Noop

abbrev pub asked_for : Front → Loopers → Loopers
asked_for front.Nothing l = l
asked_for front.Noop l = l
asked_for front.SpawnLooper l = record l { requested = 1 }

-- BC_REGISTER_LOOPER
abbrev pub came_to : ℕ → Loopers → Loopers
came_to code l = if (code == 0x630b) && not (l.requested == 0) then record l { requested = 0; started = more l.started } else l

-- BC_EXIT_LOOPER
abbrev pub enters_by : ℕ → Bool
enters_by code = not (code == 0x630d)
