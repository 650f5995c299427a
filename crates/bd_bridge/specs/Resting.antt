-- Who waits for the reply to a call, and has the completion of that call still to read.
use Rattle.std.specs.Prelude.{ℕ, ◌==◌, Bool, false, ◌||◌, Option, Some, None}
use Rattle.bd_bridge.specs.declared.resting.Resting.{Resting}

abbrev pub is_it : Option ℕ → ℕ → Bool
is_it None t = false
is_it (Some seat) t = seat == t

abbrev pub is_resting : Resting → ℕ → Bool
is_resting r t = is_it r.first t || is_it r.second t
