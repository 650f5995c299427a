-- The readiness of seats, as noted.
use Rattle.std.specs.Prelude.{ℕ, ◌≡◌, ◌==◌, ◌<◌, Bool, true, false, not, List, length, get_or}
use Rattle.bd_ways.specs.Words.{list_any, Space}
use Rattle.bd_space.specs.Histories.{is_ready}

abbrev pub has_seat : List ℕ → ℕ → Bool
has_seat seats seat = list_any (λ x. x == seat) seats

-- Whether the first is so and the second isn't.
abbrev pub flipped : Bool → Bool → Bool
flipped true b = not b
flipped false b = b

-- each seat is noted as it is in this space
abbrev pub Noted : List Bool → Space → Type 0
Noted noted s = (seat : ℕ) → seat < length noted → get_or noted seat false ≡ is_ready s seat
