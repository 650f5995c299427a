use Rattle.std.proofs.lemmas.Result.{IfOk-weaker}
use Rattle.bd_calls.specs.Told.{Recalls}
use Rattle.bd_calls.proofs.table.CallTable.tell_reached.Goals as goal

pub returns-clause-exact : goal.returns-clause-exact
unfolding Recalls
returns-clause-exact c = IfOk-weaker c.tell.result _ _ (λ whole exact is told s recalls stands. exact is told s.todo recalls stands.todo_are) c.tell.ensures.exact
