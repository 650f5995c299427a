-- Of which process's group a seat is.
use Rattle.std.specs.Prelude.{ℕ, ◌≡◌, true, List, Option, Some, None, slice_index_or}
use Rattle.bd_bridge.specs.declared.{waiters.Home.{Home}, groups.Groups.{Groups}}
use Rattle.bd_bridge.specs.{Groups.{seats_of}, Named.{has_seat}}

abbrev pub home_at : List (Option Home) → ℕ → Option Home
home_at homes seat = slice_index_or homes seat None

-- each seat that has one is in that group
abbrev pub AreHomes : List (Option Home) → Groups → Type 0
AreHomes homes groups = (t : ℕ) (h : Home) → home_at homes t ≡ Some h → has_seat (seats_of groups h.process) t ≡ true
