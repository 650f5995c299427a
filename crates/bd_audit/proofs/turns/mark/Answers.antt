use Rattle.std.proofs.Common.{◌∙◌, ap, not, arith}
use Rattle.bd_space.specs.Histories.{space_after}
use Rattle.bd_audit.specs.TurnSearch.{marked}
use Rattle.bd_audit.proofs.TurnsAreTaken.TurnMarks.{marks_next, marks_stop}
use Rattle.bd_audit.proofs.turns.mark.Goals as goal

pub returns-then-is_none-clause-all : goal.returns-then-is_none-clause-all
returns-then-is_none-clause-all c =
    marks_stop (marked c.args.place (space_after c.args.engine.now).buffers) c.args.ended c.args.turns.now c.requires c.loop-at.turns c.loop-at.at _ c.marked-turn.result
    c.loop-at.invariant (omega arith) (omega arith) c.marked-turn.ensures (c.is_none.ensures ∙ ap not c.if-is_none.true)

pub loop-at-preserved : goal.loop-at-preserved
loop-at-preserved c =
    marks_next (marked c.args.place (space_after c.args.engine.now).buffers) c.args.ended c.args.turns.now c.requires c.loop-at.turns c.loop-at.at _ c.marked-turn.result
    c.loop-at.invariant (omega arith) (omega arith) c.marked-turn.ensures (c.is_none.ensures ∙ ap not c.if-is_none.false)
