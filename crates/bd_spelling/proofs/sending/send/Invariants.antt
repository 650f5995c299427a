use Rattle.std.proofs.Common.{length, take, ◌≤◌}
use Rattle.std.specs.Io.KnownBytes.{Appends}
use Rattle.bd_spelling.proofs.sending.send.Given as goal

abbrev pub invariant-loop : goal.invariant-loop
invariant-loop g l = (l.sent ≤ length l.bytes) × Appends (g.W.Write.contents l.initial.out) (g.W.Write.contents l.out) (take l.sent l.bytes)
