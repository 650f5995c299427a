use Rattle.std.proofs.Common.{◌≤◌}
use Rattle.bd_player.proofs.threads.print_told.Given as goal

abbrev pub invariant-loop-number : goal.invariant-loop-number
invariant-loop-number g l = l.fn.status ≤ l.greatest
