-- Who is still to be looked at.
use Rattle.std.specs.Prelude.{ℕ, ◌+◌, length, nat_lt, Bool, ◌||◌}
use Rattle.bd_bridge.specs.declared.suspects.Suspects.{Suspects}
use Rattle.bd_bridge.specs.Named.{has_seat}

-- by name, or as one of all seats below a number
abbrev pub is_suspect : Suspects → ℕ → Bool
is_suspect s t = has_seat s.seats.items t || nat_lt t s.below

-- after so many looks nobody is left, if nobody comes
abbrev pub suspects_in : Suspects → ℕ
suspects_in s = length s.seats.items + s.below
