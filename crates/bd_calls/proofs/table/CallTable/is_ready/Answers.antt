use Rattle.std.proofs.Common.{None, ap, sym, subst, ◌∙◌, get_or, IfSome}
use Rattle.bd_space.specs.Todo.{has_work_in}
use Rattle.bd_calls.specs.Ready.{IsSeen}
use Rattle.bd_calls.proofs.table.CallTable.is_ready.Goals as goal

pub returns-in_default : goal.returns-in_default
returns-in_default c = λ s stands. c.reads_any-in_default.ensures s c.args.seat stands (c.look_at.ensures s.threads s.todo stands.threads_are stands.todo_are)

pub returns-in-Some-Some : goal.returns-in-Some-Some
returns-in-Some-Some c = λ s stands.
    let seat = c.args.seat in
    let item = c.in-Some-Some.ensures in
    c.reads_any.ensures s seat stands (subst (λ o. IfSome o (IsSeen s.threads (has_work_in s.todo) seat))
    (ap (λ xs. get_or xs seat None) (sym c.deref.ensures.value) ∙ sym (item.lookup.3.1 None) ∙ c.in-Some-Some.field-0-is) (stands.ready_are seat))
