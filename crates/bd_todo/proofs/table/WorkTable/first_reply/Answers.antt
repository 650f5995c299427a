use Rattle.std.proofs.Common.{ap, ◌∙◌}
use Rattle.bd_todo.specs.TodoList.{first_reply_in}
use Rattle.bd_todo.proofs.table.WorkTable.first_reply.Goals as goal

pub returns : goal.returns
returns c = λ l h. c.first_reply_among.ensures ∙ ap first_reply_in (c.works_on.ensures l h)
