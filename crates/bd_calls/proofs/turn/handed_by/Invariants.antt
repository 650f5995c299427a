use Rattle.std.proofs.Common.{◌≡◌, map, drop}
use Rattle.bd_ways.specs.Words.{Work, first_of}
use Rattle.bd_space.specs.Todo.{hands_out}
use Rattle.bd_calls.proofs.turn.handed_by.Given as goal

abbrev pub invariant-loop-work : goal.invariant-loop-work
invariant-loop-work l = first_of (map (λ (w : Work). hands_out w.kind) l.taken) ≡ first_of (map (λ (w : Work). hands_out w.kind) (drop l.work-index l.taken))
