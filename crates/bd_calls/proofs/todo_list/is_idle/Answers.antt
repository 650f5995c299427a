use Rattle.std.proofs.Common.{◌∙◌, ap, sym, not}
use Rattle.bd_calls.proofs.InCalls.{in_no_call}
use Rattle.bd_calls.proofs.todo_list.is_idle.Goals as goal

pub returns-else-count-eq0 : goal.returns-else-count-eq0
returns-else-count-eq0 c = λ l are. rw c.if-thread.true (ap not (c.is_in_call.ensures l are) ∙ sym (in_no_call l c.args.thread.now.seat))
