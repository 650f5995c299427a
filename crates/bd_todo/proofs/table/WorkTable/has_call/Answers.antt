use Rattle.std.proofs.Common.{◌∙◌}
use Rattle.bd_todo.proofs.WorksStand.{has_call_is}
use Rattle.bd_todo.proofs.table.WorkTable.has_call.Goals as goal

pub returns : goal.returns
returns c = λ l h. c.has.ensures ∙ has_call_is c.args.self.now c.args.buffer l h
