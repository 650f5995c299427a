use Rattle.bd_deaths.proofs.Words.{DeathNotification, DeathsAre, List, Uses, filter, length, not, ◌+◌, ◌==◌, ◌≡◌, ◌≤◌}
use Rattle.bd_deaths.proofs.table.DeathTable.pop_each.Given as goal

abbrev pub invariant-loop : goal.invariant-loop
invariant-loop l = record {
  uses : Uses l.fn.self l.self 0;
  left : (l0 : List DeathNotification) → DeathsAre l.fn.self l0
      → (mid : List DeathNotification) × DeathsAre l.self mid × (filter (λ x. not (x.process == l.fn.p)) mid ≡ filter (λ x. not (x.process == l.fn.p)) l0) × (length mid + l.counter ≤ length l0);
}
