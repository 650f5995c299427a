use Rattle.bd_deaths.proofs.Words.{deaths_at, drop, ◌++◌, ◌≡◌}
use Rattle.bd_deaths.proofs.table.DeathTable.deaths_of.Given as goal

abbrev pub invariant-loop-n : goal.invariant-loop-n
invariant-loop-n l = l.told.items ++ deaths_at l.self (drop l.n-index l.found) ≡ deaths_at l.self l.found
