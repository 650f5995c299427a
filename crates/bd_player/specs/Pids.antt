-- The pids of processes that are known by the places where they were opened, and of the owners of objects.
use Rattle.std.specs.Prelude.{ℕ, ◌+◌, List, Option, Some, None, option_and_then}
use Rattle.std.specs.Option.{option_or}
use Rattle.std.specs.List.{slice_get}
use Rattle.bd_space.specs.declared.step.Entry.{Entry}
use Rattle.bd_space.specs.declared.step.Identity.{Identity}
use Rattle.bd_space.specs.declared.step.Step.{Step}
use Rattle.bd_space.specs.declared.step.Step.TheVariants.{Open}
use Rattle.bd_space.specs.Returns.{buffer_in}
use Rattle.bd_space.specs.Space.{Space}
use Rattle.bd_space.specs.Histories.{History, space_after}
use Rattle.bd_engine.specs.Looks.{owner_of, process_of}
use Rattle.bd_audit.specs.Replays.{beginning, with_entry}

abbrev pub pid_opened : Step → Option ℕ
pid_opened (Open pid euid window) = Some pid
pid_opened _ = None

-- the pid of the process that was opened at this place
abbrev pub pid_at : List Entry → ℕ → Option ℕ
pid_at es place = option_and_then (λ e. pid_opened e.step) (slice_get es place)

-- the pid of the process that owns an object
abbrev pub owner_pid : Space → List Entry → Identity → Option ℕ
owner_pid s es o = option_and_then (pid_at es) (owner_of s o)

-- the pid of the process of a seat's thread
abbrev pub pid_of : Space → List Entry → ℕ → Option ℕ
pid_of s es seat = option_and_then (pid_at es) (process_of s seat)

-- the pid of the process in whose window the buffer lies that was made at this place
abbrev pub receiver_of : Space → List Entry → ℕ → Option ℕ
receiver_of s es made = option_and_then (λ b. pid_at es b.receiver) (buffer_in s.buffers made)

-- the pid of the process that makes the step at this place
abbrev pub maker_of : History → ℕ → Option ℕ
maker_of h place = option_and_then (λ e. pid_of (space_after (beginning place h)) h.entries e.seat) (slice_get h.entries place)

-- the pid of the process that the step at this place sends something to, in a buffer that it makes
abbrev pub taker_of : History → ℕ → Option ℕ
taker_of h place = receiver_of (space_after (beginning (place + 1) h)) h.entries place

-- the pid of the process that makes a step: that of its seat's thread before it, or else after it
abbrev pub pid_in : History → List Entry → Entry → Option ℕ
pid_in h es e = option_or (pid_of (space_after h) es e.seat) (pid_of (space_after (with_entry h e)) es e.seat)
