use Rattle.std.proofs.Common.{◌≡◌}
use Rattle.bd_todo.specs.TodoList.{first_reply_in}
use Rattle.bd_todo.proofs.finding.first_reply_among.Given as goal

abbrev pub invariant-loop-work : goal.invariant-loop-work
invariant-loop-work l = first_reply_in l.initial.work-iterator ≡ first_reply_in l.work-iterator
