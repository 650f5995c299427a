-- How many seats a new driver has.
use Rattle.std.proofs.Common.{◌≡◌, ℕ, zero, suc, ◌+◌, length, refl, ap}
use Rattle.atomic_table.specs.Seated.{TableId}
use Rattle.bd_driver.specs.Together.{new_seats}

-- as many as were asked for
pub how_many : (table : TableId) (seats who k : ℕ) → length (new_seats table seats who k) ≡ k
how_many table seats who zero = refl
how_many table seats who (suc k) = ap suc (how_many table seats (who + 1) k)
