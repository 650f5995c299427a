use Rattle.std.proofs.Common.{ℕ, ◌≡◌, ◌<◌, ◌≤◌}
use Rattle.std.specs.{Int.{bit_at}, Prelude.{if◌then◌else◌}}
use Rattle.bd_space.specs.{Space.{Space}, Histories.{is_ready}}
use Rattle.bd_calls.specs.Stands.{StandsFor}
use Rattle.bd_calls.proofs.table.CallTable.ask_marked.Given as goal

abbrev pub invariant-marked : goal.invariant-marked
invariant-marked l = record {
  fits : l.ready < 4294967296;
  below : (i : ℕ) → i < 32 → bit_at l.rest i ≡ 1 → i < l.seats;
  looked : (s : Space) → StandsFor l.self s → (i : ℕ) → i < l.seats → bit_at l.rest i ≡ 0 → bit_at l.ready i ≡ (if is_ready s i then 1 else 0);
  beyond : (i : ℕ) → i < 32 → l.seats ≤ i → bit_at l.ready i ≡ 0;
}

abbrev pub decreases-marked : goal.decreases-marked
decreases-marked l = l.rest
