use Rattle.std.proofs.Common.{Some, None, ◌∙◌}
use Rattle.bd_audit.proofs.TurnsTellOfCalls.TurnLists.{handed_is}
use Rattle.bd_audit.proofs.turns.is_handed.Goals as goal

pub returns-in-Some : goal.returns-in-Some
returns-in-Some c = c.is_handed.ensures ∙ handed_is c.args.engine.now c.args.made (Some c.in-Some.buffer) (rw c.from.ensures at c.in-Some.ensures)

pub returns-in-None : goal.returns-in-None
returns-in-None c = handed_is c.args.engine.now c.args.made None (rw c.from.ensures at c.in-None.ensures)
