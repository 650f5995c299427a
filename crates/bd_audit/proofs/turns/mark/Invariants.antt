use Rattle.bd_space.specs.Histories.{space_after}
use Rattle.bd_audit.specs.TurnSearch.{marked}
use Rattle.bd_audit.proofs.TurnsAreTaken.TurnMarks.{MarkedTo}
use Rattle.bd_audit.proofs.turns.mark.Given as goal

abbrev pub invariant-loop-at : goal.invariant-loop-at
invariant-loop-at l = MarkedTo (marked l.place (space_after l.engine).buffers) l.fn.turns l.at l.turns
