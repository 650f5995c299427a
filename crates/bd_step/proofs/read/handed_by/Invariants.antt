use Rattle.bd_step.proofs.Words.{Work, drop, first_of, hands_out, map, ◌≡◌}
use Rattle.bd_step.proofs.read.handed_by.Given as goal

abbrev pub invariant-loop-work : goal.invariant-loop-work
invariant-loop-work l = first_of (map (λ (w : Work). hands_out w.kind) l.works) ≡ first_of (map (λ (w : Work). hands_out w.kind) (drop l.work-index l.works))
