-- How many seats a driver may have.
use Rattle.std.specs.Prelude.{ℕ, ◌≤◌}

abbrev pub most_seats : ℕ
most_seats = 31

abbrev pub IsSeats : ℕ → Type 0
IsSeats n = (1 ≤ n) × (n ≤ most_seats)
