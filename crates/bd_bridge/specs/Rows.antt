-- Those who wait, a row for each seat.
use Rattle.std.specs.Prelude.{ℕ, ◌≡◌, nat_lt, true, List, Option, Some, None, slice_index_or}
use Rattle.bd_bridge.specs.declared.{waiters.Waiter.{Waiter}, groups.Groups.{Groups}}
use Rattle.bd_bridge.specs.{Groups.{seats_of}, Named.{has_seat}}

abbrev pub row_at : List (Option Waiter) → ℕ → Option Waiter
row_at rows seat = slice_index_or rows seat None

-- each of them is in the group of its process
abbrev pub AreInGroups : List (Option Waiter) → Groups → Type 0
AreInGroups rows groups = (t : ℕ) (w : Waiter) → row_at rows t ≡ Some w → has_seat (seats_of groups w.process) t ≡ true

-- each of them has a seat below this one
abbrev pub AreBelow : List (Option Waiter) → ℕ → Type 0
AreBelow rows top = (t : ℕ) (w : Waiter) → row_at rows t ≡ Some w → nat_lt t top ≡ true
