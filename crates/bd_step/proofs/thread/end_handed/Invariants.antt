use Rattle.bd_step.proofs.{Words.{Space, StandsFor, StandsIn, UsesNothing, without_all_handed}, Handed.{Going}}
use Rattle.bd_step.proofs.thread.end_handed.Given as goal

abbrev pub invariant-loop-work : goal.invariant-loop-work
invariant-loop-work l = record {
  objects : (s : Space) → StandsFor l.fn.objects s → Going (StandsFor l.objects) l.work-iterator (without_all_handed s l.initial.work-iterator);
  windows : (s : Space) → StandsIn l.fn.windows s → Going (StandsIn l.windows) l.work-iterator (without_all_handed s l.initial.work-iterator);
  uses : UsesNothing l.fn.objects l.objects;
}
