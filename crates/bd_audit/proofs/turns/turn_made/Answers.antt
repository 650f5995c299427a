use Rattle.std.proofs.Common.{true, false, None, sym, ◌∙◌}
use Rattle.bd_audit.proofs.TurnsTellOfCalls.TurnLists.{made_call, made_is}
use Rattle.bd_audit.proofs.turns.turn_made.Goals as goal

pub returns-then-is_call_on : goal.returns-then-is_call_on
returns-then-is_call_on c =
    made_call c.args.engine.now c.args.object c.args.place c.in-Some.buffer true (rw c.from.ensures at c.in-Some.ensures) (sym c.is_call_on.ensures ∙ c.if-is_call_on.true)

pub returns-else-is_call_on : goal.returns-else-is_call_on
returns-else-is_call_on c =
    made_call c.args.engine.now c.args.object c.args.place c.in-Some.buffer false (rw c.from.ensures at c.in-Some.ensures) (sym c.is_call_on.ensures ∙ c.if-is_call_on.false)

pub returns-in-None : goal.returns-in-None
returns-in-None c = made_is c.args.engine.now c.args.object c.args.place None (rw c.from.ensures at c.in-None.ensures)
