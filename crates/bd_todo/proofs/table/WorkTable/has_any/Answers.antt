use Rattle.std.proofs.Common.{◌∙◌}
use Rattle.bd_todo.proofs.table.WorkTable.has_any.Goals as goal

pub returns : goal.returns
returns c = λ l h. c.is_some.ensures ∙ c.front.ensures.any l h.queues_stand
