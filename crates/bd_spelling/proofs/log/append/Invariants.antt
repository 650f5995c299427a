use Rattle.std.proofs.Common.{◌≡◌, ◌+◌, ◌++◌, length}
use Rattle.bd_spelling.proofs.log.append.Given as goal

abbrev pub invariant-loop : goal.invariant-loop
invariant-loop l = (l.fn.entries.items ++ l.fn.from ≡ l.entries.items ++ l.from) × (l.counter + length l.from ≡ l.end)
