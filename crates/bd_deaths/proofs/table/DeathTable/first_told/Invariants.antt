use Rattle.bd_deaths.proofs.Words.{first_at, is_told_in, ◌≡◌}
use Rattle.bd_deaths.proofs.table.DeathTable.first_told.Given as goal

abbrev pub invariant-loop-m : goal.invariant-loop-m
invariant-loop-m l = first_at (is_told_in l.self l.p l.cookie) l.initial.m-iterator ≡ first_at (is_told_in l.self l.p l.cookie) l.m-iterator
