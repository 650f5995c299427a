use Rattle.std.proofs.Common.{◌≡◌}
use Rattle.bd_tests.proofs.hand_over.collects.Given as goal

abbrev pub invariant-loop-turn : goal.invariant-loop-turn
invariant-loop-turn l = l.seat.table ≡ l.driver.table
