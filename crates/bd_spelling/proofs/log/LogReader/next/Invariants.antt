use Rattle.std.proofs.Common.{◌≡◌, ◌+◌, ◌++◌, length}
use Rattle.bd_spelling.specs.Logged.{entries_of}
use Rattle.bd_spelling.proofs.log.LogReader.next.Given as goal

abbrev pub invariant-loop-next : goal.invariant-loop-next
invariant-loop-next l =
    l.self-inside.here ++ (entries_of l.self-inside.rest.now ++ entries_of l.self-inside.last.now)
    ≡ l.initial.self-inside.here ++ (entries_of l.initial.self-inside.rest.now ++ entries_of l.initial.self-inside.last.now)

abbrev pub decreases-loop-next : goal.decreases-loop-next
decreases-loop-next l = length l.self-inside.rest.now + length l.self-inside.last.now
