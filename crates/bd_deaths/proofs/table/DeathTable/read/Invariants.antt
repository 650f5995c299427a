use Rattle.bd_deaths.proofs.Words.{DeathNotification, DeathsAre, List, Told, Uses, changed, is_told_of_death, take}
use Rattle.bd_deaths.proofs.table.DeathTable.read.Given as goal

abbrev pub invariant-loop-w : goal.invariant-loop-w
invariant-loop-w l = record {
  so_far : (xs : List DeathNotification) → DeathsAre l.fn.self xs → DeathsAre l.self (changed (is_told_of_death (take l.w-index l.taken)) (λ x. record x { phase = Told }) xs);
  uses : Uses l.fn.self l.self 0;
}
