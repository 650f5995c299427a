-- Seats by name.
use Rattle.std.specs.Prelude.{ℕ, ◌==◌, Bool, List}
use Rattle.std.specs.List.{list_any}

abbrev pub has_seat : List ℕ → ℕ → Bool
has_seat seats t = list_any (λ x. x == t) seats
