-- Which seats are marked: those that may have something to read.
use Rattle.std.specs.Prelude.{ℕ, ◌≡◌, ◌<◌, Bool, true, false, ◌&&◌, ◌||◌, List, Option, None, Some, get_or, if◌then◌else◌}
use Rattle.std.specs.Int.{bit_at}
use Rattle.bd_ways.specs.Words.{is_some_and}
use Rattle.bd_calls.specs.{declared.seen.Seen.{Seen}}

-- something is kept of the seat
abbrev pub is_known : Option Seen → Bool
is_known None = false
is_known (Some x) = true

-- nothing is kept of the seat; or it has a thread, and there is something on its own list, or on its process's, which it reads in the loop
abbrev pub may_read : Option Seen → Bool
may_read None = true
may_read (Some x) = is_some_and x.thread (λ t. x.own || (x.shared && t.looping))

-- the word's bit i is set exactly where something is kept of seat i
abbrev pub AreKnown : List (Option Seen) → ℕ → Type 0
AreKnown seats word = (i : ℕ) → i < 32 → bit_at word i ≡ (if is_known (get_or seats i None) then 1 else 0)

-- the word's bit i is set exactly where seat i may have something to read
abbrev pub AreMarked : List (Option Seen) → ℕ → Type 0
AreMarked seats word = (i : ℕ) → i < 32 → bit_at word i ≡ (if may_read (get_or seats i None) then 1 else 0)
