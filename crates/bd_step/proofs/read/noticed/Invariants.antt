use Rattle.bd_step.proofs.Words.{Work, drop, filter_map, notice_of, ◌++◌, ◌≡◌}
use Rattle.bd_step.proofs.read.noticed.Given as goal

abbrev pub invariant-loop-work : goal.invariant-loop-work
invariant-loop-work l = l.objects.items ++ filter_map (λ (w : Work). notice_of w.kind) (drop l.work-index l.works) ≡ filter_map (λ (w : Work). notice_of w.kind) l.works
