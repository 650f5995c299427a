use Rattle.std.proofs.Common.{Some, None}
use Rattle.bd_audit.proofs.TurnsTellOfCalls.TurnLists.{live_is}
use Rattle.bd_audit.proofs.turns.is_live.Goals as goal

pub returns-in-Some : goal.returns-in-Some
returns-in-Some c = live_is c.args.engine.now c.args.made (Some c.in-Some.field-0) (rw c.from.ensures at c.in-Some.ensures)

pub returns-in-None : goal.returns-in-None
returns-in-None c = live_is c.args.engine.now c.args.made None (rw c.from.ensures at c.in-None.ensures)
