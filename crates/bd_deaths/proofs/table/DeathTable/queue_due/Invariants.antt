use Rattle.bd_deaths.proofs.Words.{DeathNotification, DeathsAre, List, Uses, queued_on}
use Rattle.bd_deaths.proofs.table.DeathTable.queue_due.Given as goal

abbrev pub invariant-loop-o : goal.invariant-loop-o
invariant-loop-o l = record {
  so_far : (xs : List DeathNotification) → DeathsAre l.fn.self xs → DeathsAre l.self (queued_on l.yielded xs);
  uses : Uses l.fn.self l.self 0;
}
